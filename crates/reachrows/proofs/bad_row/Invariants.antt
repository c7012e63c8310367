-- `reachrows::bad_row` meets its contract: where the pass found nothing, no index passes;
-- else a search, whose invariant says that the search that is left gives the answer. Assumes nothing.
use Prim.Native.Nat.{ℕ}
use mathlib.Core.Path.{◌≡◌}
use mathlib.Core.Bool.{Bool}
use Rattle.laws.specs.Search.{first}
use Rattle.reachrows.specs.Rows.{row_bad}
use lib.ListN.{get_or}
use mathlib.Core.List.{List}
use Rattle.reachrows.proofs.bad_row.Given as goal

abbrev pub test : ℕ → List ℕ → ℕ → Bool
test cells reach k = row_bad cells (get_or reach k 0) k

abbrev pub invariant-loop-k : goal.invariant-loop-k
invariant-loop-k l = first (test l.cells l.reach) 0 32 ≡ first (test l.cells l.reach) l.k 32
