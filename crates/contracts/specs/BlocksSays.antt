-- The equalities that the contracts of crate `blocks` state: r is the answer, and x' what a lent x holds afterwards.
-- Made by tools/surface from the source.
use Rattle.std.specs.Prelude.{Bool, List, ℕ, ◌≡◌}
use Rattle.blocks.specs.Order.{bit_of_two, high_order, high_sends, low_order, low_sends, meeting, placed}
use Rattle.blocks.specs.declared.Block.{Block}
use Rattle.laws.specs.Bits.{word_of}
use Rattle.laws.specs.Choice.{pick}
use Rattle.laws.specs.Search.{first}
use Rattle.theory.specs.Greedy.{sends}

-- blocks::bits_if
pub record BlocksBitsIf (byte : ℕ) (w : ℕ) (r : ℕ) : Type 0 where
  pub answer : r ≡ pick (sends byte) w 0

-- blocks::block_of
pub record BlocksBlockOf (bytes : List ℕ) (from : ℕ) (r : Block) : Type 0 where
  pub answer : r ≡ record { low = word_of (low_sends bytes from) 64; high = word_of (high_sends bytes from) 64 }

-- blocks::block_of_bits
pub record BlocksBlockOfBits (x : ℕ) (y : ℕ) (r : Block) : Type 0 where
  pub answer : r ≡ record { low = word_of (low_order (bit_of_two x y)) 64; high = word_of (high_order (bit_of_two x y)) 64 }

-- blocks::blocks_meet
pub record BlocksBlocksMeet (low : ℕ) (high : ℕ) (x : ℕ) (y : ℕ) (r : Bool) : Type 0 where
  pub answer : r ≡ meeting low high x y

-- blocks::lowest_place
pub record BlocksLowestPlace (low : ℕ) (high : ℕ) (r : ℕ) : Type 0 where
  pub answer : r ≡ first (placed low high) 0 128
