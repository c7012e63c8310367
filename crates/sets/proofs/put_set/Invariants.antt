-- `sets::put_set` meets its contract: before word j, that many words are stored. Assumes nothing.
use mathlib.Core.Path.{◌≡◌}
use Prim.Native.Nat.{◌-◌, ◌≤◌}
use lib.ListN.{length, get_or}
use lib.Seq.{sets}
use Rattle.laws.specs.Part.{list_of}
use Rattle.sets.proofs.put_set.Given as goal

abbrev pub invariant-loop-j : goal.invariant-loop-j
invariant-loop-j l = (l.j ≤ l.w) × (length l.out ≡ length l.initial.out) × (l.out ≡ sets l.initial.out l.at (list_of (λ q. get_or l.set q 0) l.j))

abbrev pub decreases-loop-j : goal.decreases-loop-j
decreases-loop-j l = l.w - l.j
