-- `packing::copy_rest` meets its contract: before byte i, that many bytes are stored. Assumes nothing.
use mathlib.Core.Path.{◌≡◌}
use Prim.Native.Nat.{◌+◌, ◌-◌, ◌≤◌}
use lib.ListN.{length, get_or}
use lib.Seq.{sets}
use Rattle.laws.specs.Part.{list_of}
use Rattle.packing.proofs.copy_rest.Given as goal

abbrev pub invariant-loop-i : goal.invariant-loop-i
invariant-loop-i l = (l.n ≡ length l.row - l.from) × (l.i ≤ l.n) × (length l.bytes ≡ length l.initial.bytes) ×
    (l.bytes ≡ sets l.initial.bytes 0 (list_of (λ q. get_or l.row (l.from + q) 0) l.i))

abbrev pub decreases-loop-i : goal.decreases-loop-i
decreases-loop-i l = l.n - l.i
