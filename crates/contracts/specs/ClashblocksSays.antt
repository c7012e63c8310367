-- The equalities that the contracts of crate `clashblocks` state: r is the answer, and x' what a lent x holds afterwards.
-- Made by tools/surface from the source.
use Rattle.std.specs.Prelude.{List, ℕ, ◌≡◌}
use Rattle.blocks.specs.Order.{high_order, low_order}
use Rattle.blocks.specs.declared.Block.{Block}
use Rattle.clashblocks.specs.Above.{clash_from}
use Rattle.laws.specs.Bits.{word_of}

-- clashblocks::block_clash
pub record ClashblocksBlockClash (table : List ℕ) (n : ℕ) (from : ℕ) (clash : List ℕ) (cells : ℕ) (r : Block) : Type 0 where
  pub answer : r ≡ record {
    low = word_of (low_order (clash_from cells n clash table from)) 64;
    high = word_of (high_order
        (clash_from cells n clash table from)) 64;
  }
