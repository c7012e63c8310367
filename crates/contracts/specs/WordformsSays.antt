-- The equalities that the contracts of crate `wordforms` state: r is the answer, and x' what a lent x holds afterwards.
-- Made by tools/surface from the source.
use Rattle.std.specs.Prelude.{List, drop, length, ℕ, ◌*◌, ◌++◌, ◌≡◌}
use Rattle.laws.specs.Part.{list_of}
use Rattle.laws.specs.Sum.{bit}
use Rattle.std.proofs.lemmas.List.Edits.{sets}
use Rattle.theory.specs.Greedy.{reserved}
use Rattle.wordforms.specs.Words.{bytes_of, sends_at}
use Rattle.words.specs.Words.{words_of}

-- wordforms::gather_words
pub record WordformsGatherWords (words : List ℕ) (table : List ℕ) (n : ℕ) (cells : ℕ) (words' : List ℕ) : Type 0 where
  pub words_after : words' ≡ sets words 0 (words_of cells n (reserved n table))

-- wordforms::lay_row
pub record WordformsLayRow (row : List ℕ) (words : List ℕ) (i : ℕ) (row' : List ℕ) : Type 0 where
  pub row_after : row' ≡ list_of (λ k. bit (sends_at words i k)) (length row)

-- wordforms::scatter
pub record WordformsScatter (table : List ℕ) (words : List ℕ) (n : ℕ) (cells : ℕ) (table' : List ℕ) : Type 0 where
  pub table_after : table' ≡ bytes_of cells n (sends_at words) ++ drop (cells * n) table
