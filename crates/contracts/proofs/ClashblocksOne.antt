-- For any arguments one answer and one content of what is lent meet the contract, and no other, in crate `clashblocks`: by its equalities alone.
-- Made by tools/surface from the source. Assumes nothing.
use Rattle.std.specs.Prelude.{List, refl, ℕ, ◌≡◌}
use Rattle.blocks.specs.Order.{high_order, low_order}
use Rattle.blocks.specs.declared.Block.{Block}
use Rattle.clashblocks.specs.Above.{clash_from}
use Rattle.contracts.specs.ClashblocksSays.{ClashblocksBlockClash}
use Rattle.laws.specs.Bits.{word_of}

-- clashblocks::block_clash
pub clashblocks_block_clash-one : (table : List ℕ) (n : ℕ) (from : ℕ) (clash : List ℕ) (cells : ℕ)
    → (r : Block) × (ClashblocksBlockClash table n from clash cells r)
    × ((q : Block) → ClashblocksBlockClash table n from clash cells q → (q ≡ r))
clashblocks_block_clash-one table n from clash cells = (
  record { low = word_of (low_order (clash_from cells n clash table from)) 64; high = word_of (high_order (clash_from cells n clash table from)) 64 },
  record { answer = refl },
  λ q says. says.answer,
)
