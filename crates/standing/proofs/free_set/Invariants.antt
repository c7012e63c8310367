-- `standing::free_set` meets its contract: before each clashing cell, the sets of those below it are taken away. Assumes nothing.
use mathlib.Core.Path.{◌≡◌}
use mathlib.Core.Bool.{true}
use Prim.Native.Nat.{◌-◌, ◌≤◌, ◌<◌}
use lib.ListN.{length}
use lib.Seq.{sets}
use Rattle.laws.specs.Bits.{bit_at}
use Rattle.sets.specs.Sets.{in_set, set_in}
use Rattle.standing.specs.Sets.{free_by}
use Rattle.standing.proofs.free_set.Given as goal

abbrev pub invariant-loop-a : goal.invariant-loop-a
invariant-loop-a l = (l.a ≤ l.i) × (l.a < l.i → bit_at l.row l.a ≡ true) × (length l.free ≡ length l.initial.free) ×
    (l.free ≡ sets l.initial.free 0 (set_in (free_by (in_set l.vacant) l.w l.row l.stands l.a) l.w))

abbrev pub decreases-loop-a : goal.decreases-loop-a
decreases-loop-a l = l.i - l.a
