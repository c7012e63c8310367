-- The equalities that the contracts of crate `blockbits` state: r is the answer, and x' what a lent x holds afterwards.
-- Made by tools/surface from the source.
use Rattle.std.specs.Prelude.{List, length, ℕ, ◌≡◌}
use Rattle.blockbits.specs.Blocks.{block_record}
use Rattle.blockbits.specs.Loop.{blocks_read}
use Rattle.blockbits.specs.declared.BlocksRead.{BlocksRead}
use Rattle.std.proofs.lemmas.List.Edits.{sets}

-- blockbits::read_blocks
pub record BlockbitsReadBlocks (s : List ℕ) (at : ℕ) (n : ℕ) (r : BlocksRead) : Type 0 where
  pub answer : r ≡ blocks_read s at n

-- blockbits::blocks_len
pub record BlockbitsBlocksLen (set : List ℕ) (n : ℕ) (r : ℕ) : Type 0 where
  pub answer : r ≡ length (block_record set n)

-- blockbits::put_blocks
pub record BlockbitsPutBlocks (out : List ℕ) (at : ℕ) (set : List ℕ) (n : ℕ) (need : ℕ) (out' : List ℕ) : Type 0 where
  pub out_after : out' ≡ sets out at (block_record set n)
