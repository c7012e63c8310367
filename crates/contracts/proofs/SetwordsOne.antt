-- For any arguments one answer and one content of what is lent meet the contract, and no other, in crate `setwords`: by its equalities alone.
-- Made by tools/surface from the source. Assumes nothing.
use Rattle.std.specs.Prelude.{ltb, not, refl, ℕ, ◌&&◌, ◌||◌, ◌≡◌}
use Rattle.contracts.specs.SetwordsSays.{SetwordsDiffering, SetwordsEither, SetwordsFirstFew, SetwordsKeptWord, SetwordsLowWord, SetwordsShared}
use Rattle.contracts.specs.SetwordsSays.{SetwordsWithout}
use Rattle.laws.specs.Bits.{bit_at, word_of}
use Rattle.laws.specs.Choice.{pick}
use Rattle.laws.specs.Few.{first_few}
use Rattle.laws.specs.Sum.{count}

-- setwords::shared
pub setwords_shared-one : (x : ℕ) (y : ℕ)
    → (r : ℕ) × (SetwordsShared x y r)
    × ((q : ℕ) → SetwordsShared x y q → (q ≡ r))
setwords_shared-one x y = (
  word_of (λ b. bit_at x b && bit_at y b) 64,
  record { answer = refl },
  λ q says. says.answer,
)

-- setwords::either
pub setwords_either-one : (x : ℕ) (y : ℕ)
    → (r : ℕ) × (SetwordsEither x y r)
    × ((q : ℕ) → SetwordsEither x y q → (q ≡ r))
setwords_either-one x y = (
  word_of (λ b. bit_at x b || bit_at y b) 64,
  record { answer = refl },
  λ q says. says.answer,
)

-- setwords::without
pub setwords_without-one : (x : ℕ) (y : ℕ)
    → (r : ℕ) × (SetwordsWithout x y r)
    × ((q : ℕ) → SetwordsWithout x y q → (q ≡ r))
setwords_without-one x y = (
  word_of (λ b. bit_at x b && not (bit_at y b)) 64,
  record { answer = refl },
  λ q says. says.answer,
)

-- setwords::first_few
pub setwords_first_few-one : (x : ℕ) (l : ℕ)
    → (r : ℕ) × (SetwordsFirstFew x l r)
    × ((q : ℕ) → SetwordsFirstFew x l q → (q ≡ r))
setwords_first_few-one x l = (
  word_of (first_few (bit_at x) l) 64,
  record { answer = refl },
  λ q says. says.answer,
)

-- setwords::kept_word
pub setwords_kept_word-one : (x : ℕ)
    → (r : ℕ) × (SetwordsKeptWord x r)
    × ((q : ℕ) → SetwordsKeptWord x q → (q ≡ r))
setwords_kept_word-one x = (
  word_of (bit_at x) 64,
  record { answer = refl },
  λ q says. says.answer,
)

-- setwords::differing
pub setwords_differing-one : (x : ℕ) (y : ℕ)
    → (r : ℕ) × (SetwordsDiffering x y r)
    × ((q : ℕ) → SetwordsDiffering x y q → (q ≡ r))
setwords_differing-one x y = (
  count (λ b. pick (bit_at y b) (not (bit_at x b)) (bit_at x b)) 64,
  record { answer = refl },
  λ q says. says.answer,
)

-- setwords::low_word
pub setwords_low_word-one : (m : ℕ)
    → (r : ℕ) × (SetwordsLowWord m r)
    × ((q : ℕ) → SetwordsLowWord m q → (q ≡ r))
setwords_low_word-one m = (
  word_of (λ b. ltb b m) 64,
  record { answer = refl },
  λ q says. says.answer,
)
