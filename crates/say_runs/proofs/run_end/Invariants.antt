-- `say_runs::run_end` meets its contract: a search: what is left gives the answer. Assumes nothing.
use Prim.Native.Nat.{ℕ}
use mathlib.Core.Path.{◌≡◌}
use mathlib.Core.Bool.{Bool, not}
use mathlib.Core.List.{List}
use lib.Dec.{eqb}
use lib.ListN.{length, get_or}
use Rattle.laws.specs.Search.{first}
use Rattle.say_runs.specs.Runs.{run_stop}
use Rattle.say_runs.proofs.run_end.Given as goal

abbrev pub other : List ℕ → ℕ → ℕ → Bool
other row i j = not (eqb (get_or row j 0) (get_or row i 0))

abbrev pub invariant-loop-j : goal.invariant-loop-j
invariant-loop-j l = run_stop l.row l.i ≡ first (other l.row l.i) l.j (length l.row)
