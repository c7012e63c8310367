-- `stretches::subtract` meets its contract: before each turn the run is taken off the cells of the word below some k, and the rest has the others.
-- It gets smaller with each.
-- And the cells in need are those of what is left then. Assumes nothing.
use mathlib.Core.Path.{◌≡◌}
use Prim.Native.Nat.{ℕ, ◌≤◌}
use lib.ListN.{length}
use lib.Seq.{sets}
use Rattle.laws.specs.Bits.{bit_at, word_of}
use Rattle.laws.specs.Part.{list_of}
use Rattle.laws.proofs.Upward.{from_on}
use Rattle.stretches.specs.Stretches.{in_need, spent}
use Rattle.stretches.proofs.subtract.Given as goal

abbrev pub invariant-loop-rest : goal.invariant-loop-rest
invariant-loop-rest l = (k : ℕ)
    × (k ≤ l.cells)
    × (length l.left ≡ length l.initial.left)
    × (l.left ≡ sets l.initial.left 0 (list_of (spent l.initial.left l.word l.run) k))
    × (l.rest ≡ word_of (from_on (bit_at l.word) k) l.cells)
    × (l.still ≡ word_of (in_need l.left) l.cells)

abbrev pub decreases-loop-rest : goal.decreases-loop-rest
decreases-loop-rest l = l.rest
