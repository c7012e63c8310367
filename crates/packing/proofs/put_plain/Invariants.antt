-- `packing::put_plain` meets its contract: before block k, two words for each block are stored, and those from there on are still the first ones.
-- Assumes nothing.
use mathlib.Core.Path.{◌≡◌}
use Prim.Native.Nat.{◌*◌, ◌-◌, ◌≤◌}
use lib.ListN.{length}
use lib.Seq.{sets}
use Rattle.laws.specs.Part.{list_of}
use Rattle.packing.specs.Packed.{plain_word}
use Rattle.packing.proofs.put_plain.Given as goal

abbrev pub invariant-loop-k : goal.invariant-loop-k
invariant-loop-k l = (l.k ≤ l.m) × (length l.set ≡ length l.initial.set) × (l.set ≡ sets l.initial.set 0 (list_of (plain_word l.initial.set) (2 * l.k)))

abbrev pub decreases-loop-k : goal.decreases-loop-k
decreases-loop-k l = l.m - l.k
