-- For any arguments one answer and one content of what is lent meet the contract, and no other, in crate `blockwords`: by its equalities alone.
-- Made by tools/surface from the source. Assumes nothing.
use Rattle.std.specs.Prelude.{refl, ℕ, ◌≡◌}
use Rattle.blockwords.specs.Plain.{plain_bit}
use Rattle.contracts.specs.BlockwordsSays.{BlockwordsFirstPlain, BlockwordsSecondPlain}
use Rattle.laws.specs.Bits.{word_of}

-- blockwords::first_plain
pub blockwords_first_plain-one : (low : ℕ) (high : ℕ)
    → (r : ℕ) × (BlockwordsFirstPlain low high r)
    × ((q : ℕ) → BlockwordsFirstPlain low high q → (q ≡ r))
blockwords_first_plain-one low high = (
  word_of (plain_bit 0 low high) 64,
  record { answer = refl },
  λ q says. says.answer,
)

-- blockwords::second_plain
pub blockwords_second_plain-one : (low : ℕ) (high : ℕ)
    → (r : ℕ) × (BlockwordsSecondPlain low high r)
    × ((q : ℕ) → BlockwordsSecondPlain low high q → (q ≡ r))
blockwords_second_plain-one low high = (
  word_of (plain_bit 4 low high) 64,
  record { answer = refl },
  λ q says. says.answer,
)
