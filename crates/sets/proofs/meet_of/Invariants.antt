-- `sets::meet_of` meets its contract: before word j, that many words are stored. Assumes nothing.
use mathlib.Core.Path.{◌≡◌}
use mathlib.Core.Bool.{◌&&◌}
use Prim.Native.Nat.{◌-◌, ◌≤◌}
use lib.ListN.{length}
use lib.Seq.{sets}
use Rattle.sets.specs.Sets.{in_set, set_in}
use Rattle.sets.proofs.meet_of.Given as goal

abbrev pub invariant-loop-j : goal.invariant-loop-j
invariant-loop-j l = (l.j ≤ l.w) × (length l.to ≡ length l.initial.to) × (l.to ≡ sets l.initial.to 0 (set_in (λ k. in_set l.a k && in_set l.b k) l.j))

abbrev pub decreases-loop-j : goal.decreases-loop-j
decreases-loop-j l = l.w - l.j
