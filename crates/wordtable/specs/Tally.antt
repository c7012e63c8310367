-- What the walk over the words finds: where a word has two cells that clash, and how often each cell is counted.
use Rattle.std.specs.Prelude.{◌≡◌, Bool, not, List, ℕ, ◌+◌, ◌≤◌, ◌<◌, ltb, eqb, length, get_or}
use Rattle.laws.specs.Bits.{bit_at}
use Rattle.laws.specs.Choice.{pick}
use Rattle.laws.specs.Sum.{count}
use Rattle.words.specs.Clashes.{first_in}
use Rattle.wordforms.specs.Words.{sends_at}

-- two of the word's cells clash, of n cells in all, by their clash rows
abbrev pub clashing_word : List ℕ → ℕ → ℕ → Bool
clashing_word rows n word = ltb (first_in word rows n) n

-- word k is another than word p
abbrev pub differs : List ℕ → ℕ → ℕ → Bool
differs words p k = not (eqb (get_or words k 0) (get_or words p 0))

-- the counts of n cells have room for so many more
abbrev pub Room : ℕ → ℕ → List ℕ → Type 0
Room n times counts = (n ≤ length counts) × ((j : ℕ) → j < n → get_or counts j 0 + times ≤ 2048)

-- the counts of n cells, before and after so many more of each cell of a word
abbrev pub Added : ℕ → ℕ → ℕ → List ℕ → List ℕ → Type 0
Added n word times before after =
    (length after ≡ length before) × ((j : ℕ) → j < n → get_or after j 0 ≡ get_or before j 0 + pick (bit_at word j) times 0)

-- how often each of n cells is reserved in the first p words
abbrev pub CountedTo : ℕ → List ℕ → ℕ → List ℕ → Type 0
CountedTo n words p counts = (n ≤ length counts) × ((j : ℕ) → j < n → get_or counts j 0 ≡ count (sends_at words j) p)

-- cell i is not counted as often as its load says
abbrev pub miscounted : List ℕ → List ℕ → ℕ → Bool
miscounted counts loads i = not (eqb (get_or counts i 0) (get_or loads i 0))
