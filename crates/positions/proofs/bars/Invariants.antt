-- `positions::bars` meets its contract: before position k, those below it have their bytes. Assumes nothing.
use mathlib.Core.Path.{◌≡◌}
use Prim.Native.Nat.{◌≤◌}
use lib.ListN.{length}
use lib.Seq.{sets}
use Rattle.laws.specs.Part.{list_of}
use Rattle.positions.specs.Blocked.{bar_of}
use Rattle.positions.proofs.bars.Given as goal

abbrev pub invariant-loop-k : goal.invariant-loop-k
invariant-loop-k l = (l.k ≤ l.k-end) × (length l.mask ≡ l.k-end) × (l.k-end ≡ length l.initial.mask) ×
    (l.mask ≡ sets l.initial.mask 0 (list_of (bar_of l.set) l.k))
