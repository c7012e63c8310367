-- For any arguments one answer and one content of what is lent meet the contract, and no other, in crate `wordforms`: by its equalities alone.
-- Made by tools/surface from the source. Assumes nothing.
use Rattle.std.specs.Prelude.{List, drop, length, refl, ℕ, ◌*◌, ◌++◌, ◌≡◌}
use Rattle.contracts.specs.WordformsSays.{WordformsGatherWords, WordformsLayRow, WordformsScatter}
use Rattle.laws.specs.Part.{list_of}
use Rattle.laws.specs.Sum.{bit}
use Rattle.std.proofs.lemmas.List.Edits.{sets}
use Rattle.theory.specs.Greedy.{reserved}
use Rattle.wordforms.specs.Words.{bytes_of, sends_at}
use Rattle.words.specs.Words.{words_of}

-- wordforms::gather_words
pub wordforms_gather_words-one : (words : List ℕ) (table : List ℕ) (n : ℕ) (cells : ℕ)
    → (words' : List ℕ) × (WordformsGatherWords words table n cells words')
    × ((words'' : List ℕ) → WordformsGatherWords words table n cells words'' → (words'' ≡ words'))
wordforms_gather_words-one words table n cells = (
  sets words 0 (words_of cells n (reserved n table)),
  record { words_after = refl },
  λ words'' says. says.words_after,
)

-- wordforms::lay_row
pub wordforms_lay_row-one : (row : List ℕ) (words : List ℕ) (i : ℕ)
    → (row' : List ℕ) × (WordformsLayRow row words i row')
    × ((row'' : List ℕ) → WordformsLayRow row words i row'' → (row'' ≡ row'))
wordforms_lay_row-one row words i = (
  list_of (λ k. bit (sends_at words i k)) (length row),
  record { row_after = refl },
  λ row'' says. says.row_after,
)

-- wordforms::scatter
pub wordforms_scatter-one : (table : List ℕ) (words : List ℕ) (n : ℕ) (cells : ℕ)
    → (table' : List ℕ) × (WordformsScatter table words n cells table')
    × ((table'' : List ℕ) → WordformsScatter table words n cells table'' → (table'' ≡ table'))
wordforms_scatter-one table words n cells = (
  bytes_of cells n (sends_at words) ++ drop (cells * n) table,
  record { table_after = refl },
  λ table'' says. says.table_after,
)
