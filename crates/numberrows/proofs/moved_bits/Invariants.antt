-- `numberrows::moved_bits` meets its contract: before cell b, the bits of the cells below b are moved. Assumes nothing.
use mathlib.Core.Path.{◌≡◌}
use Prim.Native.Nat.{◌-◌, ◌≤◌}
use Rattle.laws.specs.Bits.{bit_at, word_of}
use Rattle.renumbering.specs.Numbering.{index_at}
use Rattle.numberrows.proofs.moved_bits.Given as goal

abbrev pub invariant-loop-b : goal.invariant-loop-b
invariant-loop-b l = (l.b ≤ l.cells) × (l.word ≡ word_of (λ k. bit_at l.row (index_at l.old k)) l.b)

abbrev pub decreases-loop-b : goal.decreases-loop-b
decreases-loop-b l = l.cells - l.b
