-- `demands::first_over` meets its contract: the invariant says that the search that is left gives the answer. Assumes nothing.
use Prim.Native.Nat.{ℕ}
use mathlib.Core.Bool.{Bool}
use mathlib.Core.List.{List}
use mathlib.Core.Path.{◌≡◌}
use lib.ListN.{get_or}
use Rattle.laws.specs.Search.{first}
use Rattle.demands.specs.Words.{over_in}
use Rattle.demands.proofs.first_over.Given as goal

abbrev pub test : List ℕ → List ℕ → ℕ → ℕ → ℕ → Bool
test loads clash who room i = over_in loads (get_or clash i 0) who room i

abbrev pub invariant-loop-i : goal.invariant-loop-i
invariant-loop-i l = first (test l.loads l.clash l.who l.room) 0 l.cells ≡ first (test l.loads l.clash l.who l.room) l.i l.cells
