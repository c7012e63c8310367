-- The equalities that the contracts of crate `setwords` state: r is the answer, and x' what a lent x holds afterwards.
-- Made by tools/surface from the source.
use Rattle.std.specs.Prelude.{ltb, not, ℕ, ◌&&◌, ◌||◌, ◌≡◌}
use Rattle.laws.specs.Bits.{bit_at, word_of}
use Rattle.laws.specs.Choice.{pick}
use Rattle.laws.specs.Few.{first_few}
use Rattle.laws.specs.Sum.{count}

-- setwords::shared
pub record SetwordsShared (x : ℕ) (y : ℕ) (r : ℕ) : Type 0 where
  pub answer : r ≡ word_of (λ b. bit_at x b && bit_at y b) 64

-- setwords::either
pub record SetwordsEither (x : ℕ) (y : ℕ) (r : ℕ) : Type 0 where
  pub answer : r ≡ word_of (λ b. bit_at x b || bit_at y b) 64

-- setwords::without
pub record SetwordsWithout (x : ℕ) (y : ℕ) (r : ℕ) : Type 0 where
  pub answer : r ≡ word_of (λ b. bit_at x b && not (bit_at y b)) 64

-- setwords::first_few
pub record SetwordsFirstFew (x : ℕ) (l : ℕ) (r : ℕ) : Type 0 where
  pub answer : r ≡ word_of (first_few (bit_at x) l) 64

-- setwords::kept_word
pub record SetwordsKeptWord (x : ℕ) (r : ℕ) : Type 0 where
  pub answer : r ≡ word_of (bit_at x) 64

-- setwords::differing
pub record SetwordsDiffering (x : ℕ) (y : ℕ) (r : ℕ) : Type 0 where
  pub answer : r ≡ count (λ b. pick (bit_at y b) (not (bit_at x b)) (bit_at x b)) 64

-- setwords::low_word
pub record SetwordsLowWord (m : ℕ) (r : ℕ) : Type 0 where
  pub answer : r ≡ word_of (λ b. ltb b m) 64
