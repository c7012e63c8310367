-- The equalities that the contracts of crate `words` state: r is the answer, and x' what a lent x holds afterwards.
-- Made by tools/surface from the source.
use Rattle.std.specs.Prelude.{Bool, List, not, ℕ, ◌&&◌, ◌≡◌}
use Rattle.laws.specs.Bits.{bit_at, word_of}
use Rattle.laws.specs.Part.{list_of}
use Rattle.laws.specs.Search.{first}
use Rattle.std.proofs.lemmas.List.Edits.{sets}
use Rattle.theory.specs.Greedy.{reserved}
use Rattle.words.specs.Clashes.{first_in, second_in}
use Rattle.words.specs.Words.{joined_row, marked_row, word_at}

-- words::lay
pub record WordsLay (words : List ℕ) (from : ℕ) (m : ℕ) (word : ℕ) (words' : List ℕ) : Type 0 where
  pub words_after : words' ≡ sets words from (list_of (λ _. word) m)

-- words::add_row
pub record WordsAddRow (words : List ℕ) (table : List ℕ) (from : ℕ) (n : ℕ) (bit : ℕ) (words' : List ℕ) : Type 0 where
  pub words_after : words' ≡ joined_row words table from n bit

-- words::join_row
pub record WordsJoinRow (words : List ℕ) (marks : List ℕ) (table : List ℕ) (from : ℕ) (n : ℕ) (bit : ℕ) (row : ℕ) (words' : List ℕ)
    (marks' : List ℕ) : Type 0 where
  pub words_after : words' ≡ joined_row words table from n bit
  pub marks_after : marks' ≡ marked_row marks words table from n row

-- words::word_at
pub record WordsWordAt (table : List ℕ) (n : ℕ) (cells : ℕ) (p : ℕ) (r : ℕ) : Type 0 where
  pub answer : r ≡ word_at cells (reserved n table) p

-- words::has
pub record WordsHas (word : ℕ) (i : ℕ) (r : Bool) : Type 0 where
  pub answer : r ≡ bit_at word i

-- words::apart
pub record WordsApart (word : ℕ) (other : ℕ) (r : ℕ) : Type 0 where
  pub answer : r ≡ word_of (λ b. bit_at word b && not (bit_at other b)) 32

-- words::lowest
pub record WordsLowest (word : ℕ) (from : ℕ) (end : ℕ) (r : ℕ) : Type 0 where
  pub answer : r ≡ first (bit_at word) from end

-- words::second_in
pub record WordsSecondIn (word : ℕ) (clash : List ℕ) (cells : ℕ) (a : ℕ) (r : ℕ) : Type 0 where
  pub answer : r ≡ second_in word clash cells a

-- words::first_in
pub record WordsFirstIn (word : ℕ) (clash : List ℕ) (cells : ℕ) (r : ℕ) : Type 0 where
  pub answer : r ≡ first_in word clash cells
