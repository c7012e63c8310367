-- `planner::plan_rows` meets its contract. At each head of the loop the run of the first i cells has given the first i rows of the table, and
-- the bytes past the site's are as they were. Each of these rows sends in the stretch that is noted of it (`Sending`). Assumes nothing.
use mathlib.Core.Path.{◌≡◌}
use Prim.Native.Nat.{◌*◌, ◌-◌, ◌≤◌}
use lib.ListN.{length, drop}
use Rattle.laws.specs.Bits.{bit_in}
use Rattle.planrows.specs.Row.{opens, Sending}
use Rattle.planner.specs.Loop.{PlannedTo}
use Rattle.site.specs.Reach.{net_in}
use Rattle.planner.proofs.plan_rows.Given as goal

abbrev pub invariant-loop-i : goal.invariant-loop-i
invariant-loop-i l = (l.i ≤ l.cells)
    × (length l.table ≡ length l.initial.table)
    × PlannedTo (net_in l.cells (l.slots * l.channels) l.loads (bit_in l.clash) (opens l.mask)) l.i l.table
    × (drop (l.cells * (l.slots * l.channels)) l.table ≡ drop (l.cells * (l.slots * l.channels)) l.initial.table)
    × (length l.starts ≡ 32)
    × (length l.ends ≡ 32)
    × Sending (l.slots * l.channels) l.table l.i l.starts l.ends

abbrev pub decreases-loop-i : goal.decreases-loop-i
decreases-loop-i l = l.cells - l.i
