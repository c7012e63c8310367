-- `say_runs::first_used` meets its contract: a search: what is left gives the answer. Assumes nothing.
use Prim.Native.Nat.{ℕ}
use mathlib.Core.Path.{◌≡◌}
use mathlib.Core.Bool.{Bool, not}
use mathlib.Core.List.{List}
use lib.Dec.{eqb}
use lib.ListN.{length, get_or}
use Rattle.laws.specs.Search.{first}
use Rattle.say_runs.proofs.first_used.Given as goal

abbrev pub used : List ℕ → ℕ → Bool
used row j = not (eqb (get_or row j 0) 0)

abbrev pub invariant-loop-j : goal.invariant-loop-j
invariant-loop-j l = first (used l.row) 0 (length l.row) ≡ first (used l.row) l.j (length l.row)
