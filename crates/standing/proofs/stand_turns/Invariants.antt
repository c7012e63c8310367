-- `standing::stand_turns` meets its contract: at the head of the loop the sets are those of the run so far (`Standing`). Assumes nothing.
use mathlib.Core.Path.{◌≡◌}
use Prim.Native.Nat.{◌-◌, ◌*◌, ◌≤◌}
use lib.ListN.{length}
use Rattle.site.specs.Reach.{is_open, net_by}
use Rattle.standing.specs.Turns.{turn_sets}
use Rattle.standing.proofs.Standing.{Standing}
use Rattle.standing.proofs.stand_turns.Given as goal

abbrev pub invariant-loop-i : goal.invariant-loop-i
invariant-loop-i l = (l.i ≤ l.cells)
    × (length l.stands ≡ length l.initial.stands)
    × (length l.free ≡ length l.initial.free)
    × (length l.here ≡ length l.initial.here)
    × Standing (net_by l.cells l.n l.loads l.clash (is_open l.blocked)) l.table l.w l.i l.stands l.number
    × (l.number ≤ l.i * 2048)
    × (l.stands ≡ turn_sets l.w l.n l.loads l.clash l.blocked l.table l.initial.stands l.i)

abbrev pub decreases-loop-i : goal.decreases-loop-i
decreases-loop-i l = l.cells - l.i
