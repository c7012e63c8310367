-- `blocks::block_of_bits` meets its contract: its words are the bytes that the columns make. Assumes nothing.
use mathlib.Core.Path.{◌≡◌, ◌∙◌}
use Prim.Native.Nat.{ℕ, ◌+◌, ◌*◌, ◌<◌}
use lib.ListN.{get_or}
use Rattle.laws.specs.Bits.{word_of}
use Rattle.blocks.specs.Order.{bit_of_two}
use Rattle.blocks.proofs.Columns.{low_word, high_word, column-stored}
use Rattle.blocks.proofs.block_of_bits.Goals as goal

pub returns : goal.returns
returns c = let a = c.args in
    let bits = c.put_bit_columns.new.bits in
    let stored : (b : ℕ) → b < 16 → get_or c.put_bit_columns.new.bits b 0 ≡ word_of (λ k. bit_of_two a.x a.y (b + 16 * k)) 8
    = column-stored c.put_bit_columns.new.bits (λ b. word_of (λ k. bit_of_two a.x a.y
    (b + 16 * k)) 8) c.put_bit_columns.ensures in record {
      low = c.word_of-low.ensures ∙ low_word (bit_of_two a.x a.y) bits stored;
      high = c.word_of-high.ensures ∙ high_word (bit_of_two a.x a.y) bits stored;
    }
