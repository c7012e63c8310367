-- `packing::put_two` meets its contract: before word d, that many words are stored. Assumes nothing.
use mathlib.Core.Path.{◌≡◌}
use Prim.Native.Nat.{◌-◌, ◌≤◌}
use lib.ListN.{length}
use lib.Seq.{sets}
use Rattle.laws.specs.Part.{list_of}
use Rattle.packing.specs.Packed.{one_of}
use Rattle.packing.proofs.put_two.Given as goal

abbrev pub invariant-loop-d : goal.invariant-loop-d
invariant-loop-d l = (l.d ≤ l.n) × (length l.set ≡ length l.initial.set) × (l.set ≡ sets l.initial.set l.at (list_of (one_of l.x l.y) l.d))

abbrev pub decreases-loop-d : goal.decreases-loop-d
decreases-loop-d l = l.n - l.d
