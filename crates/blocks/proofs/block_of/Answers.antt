-- `blocks::block_of` meets its contract: its words are the bytes that the columns make. Assumes nothing.
use mathlib.Core.Path.{◌≡◌, ◌∙◌}
use mathlib.Core.Bool.{Bool}
use Prim.Native.Nat.{ℕ, ◌+◌, ◌*◌, ◌<◌}
use lib.ListN.{get_or}
use Rattle.laws.specs.Bits.{word_of}
use Rattle.theory.specs.Greedy.{sends}
use Rattle.blocks.specs.Order.{column_at}
use Rattle.blocks.proofs.Columns.{low_word, high_word, column-stored, column-from}
use Rattle.blocks.proofs.block_of.Goals as goal

pub returns : goal.returns
returns c = let a = c.args in
    let test : ℕ → Bool = λ k. sends (get_or a.bytes.now (a.from + k) 0) in
    let stored : (b : ℕ) → b < 16 → get_or c.put_columns.new.bits b 0 ≡ word_of (λ k. sends (get_or a.bytes.now (a.from + (b + 16 * k)) 0)) 8
    = λ b h. column-stored c.put_columns.new.bits (λ k. column_at a.bytes.now (a.from + k)) c.put_columns.ensures b h
    ∙ column-from a.bytes.now a.from b in record {
      low = c.word_of-low.ensures ∙ low_word test c.put_columns.new.bits stored;
      high = c.word_of-high.ensures
          ∙ high_word test c.put_columns.new.bits stored;
    }
