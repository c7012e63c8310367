-- `planner::plan_short` meets its contract. At each head of the loop the run of the first i cells has given the first i rows of the table, the bytes past the
-- site's are as they were, and the room has the word of each of these rows (`WordsHeld`). Assumes nothing.
use mathlib.Core.Path.{◌≡◌}
use Prim.Native.Nat.{◌*◌, ◌-◌, ◌≤◌}
use lib.ListN.{length, drop}
use Rattle.laws.specs.Bits.{bit_at, bit_in}
use Rattle.shortrows.specs.Short.{WordsHeld}
use Rattle.planner.specs.Loop.{PlannedTo}
use Rattle.site.specs.Reach.{net_in}
use Rattle.planner.proofs.plan_short.Given as goal

abbrev pub invariant-loop-i : goal.invariant-loop-i
invariant-loop-i l = (l.i ≤ l.cells)
    × (length l.table ≡ length l.initial.table)
    × PlannedTo (net_in l.cells (l.slots * l.channels) l.loads (bit_in l.clash) (bit_at l.usable)) l.i l.table
    × (drop (l.cells * (l.slots * l.channels)) l.table ≡ drop (l.cells * (l.slots * l.channels)) l.initial.table)
    × (length l.held ≡ 32)
    × WordsHeld (l.slots * l.channels) l.table l.i l.held

abbrev pub decreases-loop-i : goal.decreases-loop-i
decreases-loop-i l = l.cells - l.i
