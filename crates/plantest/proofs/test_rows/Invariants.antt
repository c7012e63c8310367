-- `plantest::test_rows` meets its contract: before cell i, the table's rows of the cells below i are the run's, and each of them sends in the stretch that is
-- noted of it. Assumes nothing.
use mathlib.Core.Path.{◌≡◌}
use Prim.Native.Nat.{◌-◌, ◌*◌, ◌≤◌}
use lib.ListN.{length}
use Rattle.site.specs.Reach.{net_by}
use Rattle.planrows.specs.Row.{opens, Sending}
use Rattle.planner.specs.Loop.{PlannedTo}
use Rattle.plantest.proofs.test_rows.Given as goal

abbrev pub invariant-loop-i : goal.invariant-loop-i
invariant-loop-i l = (l.i ≤ l.cells)
    × (length l.row ≡ l.slots * l.channels)
    × (length l.starts ≡ 32)
    × (length l.ends ≡ 32)
    × PlannedTo (net_by l.cells (l.slots * l.channels) l.loads l.clash (opens l.mask)) l.i l.table
    × Sending (l.slots * l.channels) l.table l.i l.starts l.ends

abbrev pub decreases-loop-i : goal.decreases-loop-i
decreases-loop-i l = l.cells - l.i
