-- For any arguments one answer and one content of what is lent meet the contract, and no other, in crate `words`: by its equalities alone.
-- Made by tools/surface from the source. Assumes nothing.
use Rattle.std.specs.Prelude.{Bool, List, not, refl, ℕ, ◌&&◌, ◌≡◌}
use Rattle.contracts.specs.WordsSays.{WordsAddRow, WordsApart, WordsFirstIn, WordsHas, WordsJoinRow, WordsLay, WordsLowest, WordsSecondIn, WordsWordAt}
use Rattle.laws.specs.Bits.{bit_at, word_of}
use Rattle.laws.specs.Part.{list_of}
use Rattle.laws.specs.Search.{first}
use Rattle.std.proofs.lemmas.List.Edits.{sets}
use Rattle.theory.specs.Greedy.{reserved}
use Rattle.words.specs.Clashes.{first_in, second_in}
use Rattle.words.specs.Words.{joined_row, marked_row, word_at}

-- words::lay
pub words_lay-one : (words : List ℕ) (from : ℕ) (m : ℕ) (word : ℕ)
    → (words' : List ℕ) × (WordsLay words from m word words')
    × ((words'' : List ℕ) → WordsLay words from m word words'' → (words'' ≡ words'))
words_lay-one words from m word = (
  sets words from (list_of (λ _. word) m),
  record { words_after = refl },
  λ words'' says. says.words_after,
)

-- words::add_row
pub words_add_row-one : (words : List ℕ) (table : List ℕ) (from : ℕ) (n : ℕ) (bit : ℕ)
    → (words' : List ℕ) × (WordsAddRow words table from n bit words')
    × ((words'' : List ℕ) → WordsAddRow words table from n bit words'' → (words'' ≡ words'))
words_add_row-one words table from n bit = (
  joined_row words table from n bit,
  record { words_after = refl },
  λ words'' says. says.words_after,
)

-- words::join_row
pub words_join_row-one : (words : List ℕ) (marks : List ℕ) (table : List ℕ) (from : ℕ) (n : ℕ) (bit : ℕ) (row : ℕ)
    → (words' : List ℕ) × (marks' : List ℕ) × (WordsJoinRow words marks table from n bit row words' marks')
    × ((words'' : List ℕ) (marks'' : List ℕ) → WordsJoinRow words marks table from n bit row words'' marks'' → (words'' ≡ words') × (marks'' ≡ marks'))
words_join_row-one words marks table from n bit row = (
  joined_row words table from n bit,
  marked_row marks words table from n row,
  record { words_after = refl; marks_after = refl },
  λ words'' marks'' says. (says.words_after, says.marks_after),
)

-- words::word_at
pub words_word_at-one : (table : List ℕ) (n : ℕ) (cells : ℕ) (p : ℕ)
    → (r : ℕ) × (WordsWordAt table n cells p r)
    × ((q : ℕ) → WordsWordAt table n cells p q → (q ≡ r))
words_word_at-one table n cells p = (
  word_at cells (reserved n table) p,
  record { answer = refl },
  λ q says. says.answer,
)

-- words::has
pub words_has-one : (word : ℕ) (i : ℕ)
    → (r : Bool) × (WordsHas word i r)
    × ((q : Bool) → WordsHas word i q → (q ≡ r))
words_has-one word i = (
  bit_at word i,
  record { answer = refl },
  λ q says. says.answer,
)

-- words::apart
pub words_apart-one : (word : ℕ) (other : ℕ)
    → (r : ℕ) × (WordsApart word other r)
    × ((q : ℕ) → WordsApart word other q → (q ≡ r))
words_apart-one word other = (
  word_of (λ b. bit_at word b && not (bit_at other b)) 32,
  record { answer = refl },
  λ q says. says.answer,
)

-- words::lowest
pub words_lowest-one : (word : ℕ) (from : ℕ) (end : ℕ)
    → (r : ℕ) × (WordsLowest word from end r)
    × ((q : ℕ) → WordsLowest word from end q → (q ≡ r))
words_lowest-one word from end = (
  first (bit_at word) from end,
  record { answer = refl },
  λ q says. says.answer,
)

-- words::second_in
pub words_second_in-one : (word : ℕ) (clash : List ℕ) (cells : ℕ) (a : ℕ)
    → (r : ℕ) × (WordsSecondIn word clash cells a r)
    × ((q : ℕ) → WordsSecondIn word clash cells a q → (q ≡ r))
words_second_in-one word clash cells a = (
  second_in word clash cells a,
  record { answer = refl },
  λ q says. says.answer,
)

-- words::first_in
pub words_first_in-one : (word : ℕ) (clash : List ℕ) (cells : ℕ)
    → (r : ℕ) × (WordsFirstIn word clash cells r)
    × ((q : ℕ) → WordsFirstIn word clash cells q → (q ≡ r))
words_first_in-one word clash cells = (
  first_in word clash cells,
  record { answer = refl },
  λ q says. says.answer,
)
