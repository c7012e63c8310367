-- `reachrows::extra_load` meets its contract: where the pass found nothing, no index passes;
-- else a search, whose invariant says that the search that is left gives the answer. Assumes nothing.
use Prim.Native.Nat.{ℕ}
use mathlib.Core.Path.{◌≡◌}
use mathlib.Core.Bool.{Bool}
use lib.Dec.{ltb}
use lib.ListN.{get_or}
use mathlib.Core.List.{List}
use Rattle.laws.specs.Search.{first}
use Rattle.reachrows.proofs.extra_load.Given as goal

abbrev pub test : List ℕ → ℕ → Bool
test loads k = ltb 0 (get_or loads k 0)

abbrev pub invariant-loop-k : goal.invariant-loop-k
invariant-loop-k l = first (test l.loads) l.cells 32 ≡ first (test l.loads) l.k 32
