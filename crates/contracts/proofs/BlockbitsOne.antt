-- For any arguments one answer and one content of what is lent meet the contract, and no other, in crate `blockbits`: by its equalities alone.
-- Made by tools/surface from the source. Assumes nothing.
use Rattle.std.specs.Prelude.{List, length, refl, ℕ, ◌≡◌}
use Rattle.blockbits.specs.Blocks.{block_record}
use Rattle.blockbits.specs.Loop.{blocks_read}
use Rattle.blockbits.specs.declared.BlocksRead.{BlocksRead}
use Rattle.contracts.specs.BlockbitsSays.{BlockbitsBlocksLen, BlockbitsPutBlocks, BlockbitsReadBlocks}
use Rattle.std.proofs.lemmas.List.Edits.{sets}

-- blockbits::read_blocks
pub blockbits_read_blocks-one : (s : List ℕ) (at : ℕ) (n : ℕ)
    → (r : BlocksRead) × (BlockbitsReadBlocks s at n r)
    × ((q : BlocksRead) → BlockbitsReadBlocks s at n q → (q ≡ r))
blockbits_read_blocks-one s at n = (
  blocks_read s at n,
  record { answer = refl },
  λ q says. says.answer,
)

-- blockbits::blocks_len
pub blockbits_blocks_len-one : (set : List ℕ) (n : ℕ)
    → (r : ℕ) × (BlockbitsBlocksLen set n r)
    × ((q : ℕ) → BlockbitsBlocksLen set n q → (q ≡ r))
blockbits_blocks_len-one set n = (
  length (block_record set n),
  record { answer = refl },
  λ q says. says.answer,
)

-- blockbits::put_blocks
pub blockbits_put_blocks-one : (out : List ℕ) (at : ℕ) (set : List ℕ) (n : ℕ) (need : ℕ)
    → (out' : List ℕ) × (BlockbitsPutBlocks out at set n need out')
    × ((out'' : List ℕ) → BlockbitsPutBlocks out at set n need out'' → (out'' ≡ out'))
blockbits_put_blocks-one out at set n need = (
  sets out at (block_record set n),
  record { out_after = refl },
  λ out'' says. says.out_after,
)
