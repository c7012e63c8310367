-- The equalities that the contracts of crate `blockwords` state: r is the answer, and x' what a lent x holds afterwards.
-- Made by tools/surface from the source.
use Rattle.std.specs.Prelude.{ℕ, ◌≡◌}
use Rattle.blockwords.specs.Plain.{plain_bit}
use Rattle.laws.specs.Bits.{word_of}

-- blockwords::first_plain
pub record BlockwordsFirstPlain (low : ℕ) (high : ℕ) (r : ℕ) : Type 0 where
  pub answer : r ≡ word_of (plain_bit 0 low high) 64

-- blockwords::second_plain
pub record BlockwordsSecondPlain (low : ℕ) (high : ℕ) (r : ℕ) : Type 0 where
  pub answer : r ≡ word_of (plain_bit 4 low high) 64
