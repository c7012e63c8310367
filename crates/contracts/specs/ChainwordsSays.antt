-- The equalities that the contracts of crate `chainwords` state: r is the answer, and x' what a lent x holds afterwards.
-- Made by tools/surface from the source.
use Rattle.std.specs.Prelude.{List, ℕ, ◌≡◌}
use Rattle.chainwords.specs.Chain.{break_in, chain_in, first_split_in, gap_in, split_in}
use Rattle.laws.specs.Bits.{bit_at, bit_in}
use Rattle.theory.specs.Verdict.{first_break}

-- chainwords::gap
pub record ChainwordsGap (row : ℕ) (who : ℕ) (a : ℕ) (c : ℕ) (r : ℕ) : Type 0 where
  pub answer : r ≡ gap_in row who a c

-- chainwords::break_of
pub record ChainwordsBreakOf (row : ℕ) (who : ℕ) (a : ℕ) (cells : ℕ) (r : ℕ) : Type 0 where
  pub answer : r ≡ break_in row who a cells

-- chainwords::first_break
pub record ChainwordsFirstBreak (clash : List ℕ) (who : ℕ) (cells : ℕ) (r : ℕ) : Type 0 where
  pub answer : r ≡ first_break (chain_in cells (bit_in clash)) (bit_at who)

-- chainwords::split_of
pub record ChainwordsSplitOf (clash : List ℕ) (who : ℕ) (i : ℕ) (r : ℕ) : Type 0 where
  pub answer : r ≡ split_in clash who i

-- chainwords::first_split
pub record ChainwordsFirstSplit (clash : List ℕ) (who : ℕ) (cells : ℕ) (r : ℕ) : Type 0 where
  pub answer : r ≡ first_split_in clash who cells
