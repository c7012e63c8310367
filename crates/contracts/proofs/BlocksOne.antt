-- For any arguments one answer and one content of what is lent meet the contract, and no other, in crate `blocks`: by its equalities alone.
-- Made by tools/surface from the source. Assumes nothing.
use Rattle.std.specs.Prelude.{Bool, List, refl, ℕ, ◌≡◌}
use Rattle.blocks.specs.Order.{bit_of_two, high_order, high_sends, low_order, low_sends, meeting, placed}
use Rattle.blocks.specs.declared.Block.{Block}
use Rattle.contracts.specs.BlocksSays.{BlocksBitsIf, BlocksBlockOf, BlocksBlockOfBits, BlocksBlocksMeet, BlocksLowestPlace}
use Rattle.laws.specs.Bits.{word_of}
use Rattle.laws.specs.Choice.{pick}
use Rattle.laws.specs.Search.{first}
use Rattle.theory.specs.Greedy.{sends}

-- blocks::bits_if
pub blocks_bits_if-one : (byte : ℕ) (w : ℕ)
    → (r : ℕ) × (BlocksBitsIf byte w r)
    × ((q : ℕ) → BlocksBitsIf byte w q → (q ≡ r))
blocks_bits_if-one byte w = (
  pick (sends byte) w 0,
  record { answer = refl },
  λ q says. says.answer,
)

-- blocks::block_of
pub blocks_block_of-one : (bytes : List ℕ) (from : ℕ)
    → (r : Block) × (BlocksBlockOf bytes from r)
    × ((q : Block) → BlocksBlockOf bytes from q → (q ≡ r))
blocks_block_of-one bytes from = (
  record { low = word_of (low_sends bytes from) 64; high = word_of (high_sends bytes from) 64 },
  record { answer = refl },
  λ q says. says.answer,
)

-- blocks::block_of_bits
pub blocks_block_of_bits-one : (x : ℕ) (y : ℕ)
    → (r : Block) × (BlocksBlockOfBits x y r)
    × ((q : Block) → BlocksBlockOfBits x y q → (q ≡ r))
blocks_block_of_bits-one x y = (
  record { low = word_of (low_order (bit_of_two x y)) 64; high = word_of (high_order (bit_of_two x y)) 64 },
  record { answer = refl },
  λ q says. says.answer,
)

-- blocks::blocks_meet
pub blocks_blocks_meet-one : (low : ℕ) (high : ℕ) (x : ℕ) (y : ℕ)
    → (r : Bool) × (BlocksBlocksMeet low high x y r)
    × ((q : Bool) → BlocksBlocksMeet low high x y q → (q ≡ r))
blocks_blocks_meet-one low high x y = (
  meeting low high x y,
  record { answer = refl },
  λ q says. says.answer,
)

-- blocks::lowest_place
pub blocks_lowest_place-one : (low : ℕ) (high : ℕ)
    → (r : ℕ) × (BlocksLowestPlace low high r)
    × ((q : ℕ) → BlocksLowestPlace low high q → (q ≡ r))
blocks_lowest_place-one low high = (
  first (placed low high) 0 128,
  record { answer = refl },
  λ q says. says.answer,
)
