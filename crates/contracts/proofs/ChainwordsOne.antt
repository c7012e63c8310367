-- For any arguments one answer and one content of what is lent meet the contract, and no other, in crate `chainwords`: by its equalities alone.
-- Made by tools/surface from the source. Assumes nothing.
use Rattle.std.specs.Prelude.{List, refl, ℕ, ◌≡◌}
use Rattle.chainwords.specs.Chain.{break_in, chain_in, first_split_in, gap_in, split_in}
use Rattle.contracts.specs.ChainwordsSays.{ChainwordsBreakOf, ChainwordsFirstBreak, ChainwordsFirstSplit, ChainwordsGap, ChainwordsSplitOf}
use Rattle.laws.specs.Bits.{bit_at, bit_in}
use Rattle.theory.specs.Verdict.{first_break}

-- chainwords::gap
pub chainwords_gap-one : (row : ℕ) (who : ℕ) (a : ℕ) (c : ℕ)
    → (r : ℕ) × (ChainwordsGap row who a c r)
    × ((q : ℕ) → ChainwordsGap row who a c q → (q ≡ r))
chainwords_gap-one row who a c = (
  gap_in row who a c,
  record { answer = refl },
  λ q says. says.answer,
)

-- chainwords::break_of
pub chainwords_break_of-one : (row : ℕ) (who : ℕ) (a : ℕ) (cells : ℕ)
    → (r : ℕ) × (ChainwordsBreakOf row who a cells r)
    × ((q : ℕ) → ChainwordsBreakOf row who a cells q → (q ≡ r))
chainwords_break_of-one row who a cells = (
  break_in row who a cells,
  record { answer = refl },
  λ q says. says.answer,
)

-- chainwords::first_break
pub chainwords_first_break-one : (clash : List ℕ) (who : ℕ) (cells : ℕ)
    → (r : ℕ) × (ChainwordsFirstBreak clash who cells r)
    × ((q : ℕ) → ChainwordsFirstBreak clash who cells q → (q ≡ r))
chainwords_first_break-one clash who cells = (
  first_break (chain_in cells (bit_in clash)) (bit_at who),
  record { answer = refl },
  λ q says. says.answer,
)

-- chainwords::split_of
pub chainwords_split_of-one : (clash : List ℕ) (who : ℕ) (i : ℕ)
    → (r : ℕ) × (ChainwordsSplitOf clash who i r)
    × ((q : ℕ) → ChainwordsSplitOf clash who i q → (q ≡ r))
chainwords_split_of-one clash who i = (
  split_in clash who i,
  record { answer = refl },
  λ q says. says.answer,
)

-- chainwords::first_split
pub chainwords_first_split-one : (clash : List ℕ) (who : ℕ) (cells : ℕ)
    → (r : ℕ) × (ChainwordsFirstSplit clash who cells r)
    × ((q : ℕ) → ChainwordsFirstSplit clash who cells q → (q ≡ r))
chainwords_first_split-one clash who cells = (
  first_split_in clash who cells,
  record { answer = refl },
  λ q says. says.answer,
)
