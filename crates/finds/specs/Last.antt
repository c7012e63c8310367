-- The last word of `duggfrask why`: "its last word is always one of: planned; planned with the cells renumbered; planned by search; full (these cells);
-- full (searched, so many tries); not known (so many tries)". Cells are indexed from 0, and named from 1 in the text.
use Rattle.std.specs.Prelude.{ℕ, zero, suc, ◌+◌, Bool, ◌&&◌, List, [], ◌++◌, ltb, Result, Ok, Err}
use Rattle.laws.specs.Bits.{bit_at}
use Rattle.laws.specs.Choice.{pick}
use Rattle.laws.specs.Search.{first}
use Rattle.finder.specs.declared.Way.{Way}
use Rattle.finder.specs.declared.Way.TheVariants.{Greedy, Renumbered, Searched}
use Rattle.finder.specs.declared.FindError.{FindError}
use Rattle.finder.specs.declared.FindError.TheVariants.{Full, FullInClass, FullSearched, NotKnown, TableShort, Record}
use Rattle.phrases.specs.Phrases.{phrase}
use Rattle.phrases.specs.declared.Phrase.{Phrase}
use Rattle.phrases.specs.declared.Phrase.TheVariants.{Silent, Row}
use Rattle.say_search.specs.Said.{tries_phrase}
use Rattle.finds.specs.Lines.{last_lines, last_planned_row, last_renumbered_row, last_searched_row, last_exhausted_row, last_unknown_row, last_in_class_row}
use Rattle.finds.specs.Lines.{last_cell_row, last_cells_row, last_later_row, last_close_row}

-- ---- `full (these cells)`: the cells of a set in rising number

-- the lowest cell of a set; 32 where it has none
abbrev pub lowest_of : ℕ → ℕ
lowest_of x = first (bit_at x) 0 32

-- whether it has another
unfoldable pub several_in : ℕ → Bool
several_in x = ltb (first (bit_at x) (lowest_of x + 1) 32) 32

abbrev pub named_phrase : ℕ → Phrase
named_phrase x = Row (pick (several_in x) last_cells_row last_cell_row) (lowest_of x + 1) 0 0 0

-- a cell of the set above the lowest
unfoldable pub later_phrase : ℕ → ℕ → Phrase
later_phrase x j = pick (ltb (lowest_of x) j && bit_at x j) (Row last_later_row (j + 1) 0 0 0) Silent

-- those of the first so many cells
unfoldable pub later_said : ℕ → ℕ → List ℕ
later_said x zero = []
later_said x (suc j) = later_said x j ++ phrase last_lines (later_phrase x j)

-- ---- all of it: a row, and after the lowest cell of a set the others

abbrev pub last_phrase : Result Way FindError → Phrase
last_phrase (Ok Greedy) = Row last_planned_row 0 0 0 0
last_phrase (Ok Renumbered) = Row last_renumbered_row 0 0 0 0
last_phrase (Ok (Searched n)) = tries_phrase last_searched_row n
last_phrase (Err (Full x)) = named_phrase x
last_phrase (Err FullInClass) = Row last_in_class_row 0 0 0 0
last_phrase (Err (FullSearched n)) = tries_phrase last_exhausted_row n
last_phrase (Err (NotKnown n)) = tries_phrase last_unknown_row n
last_phrase (Err TableShort) = Silent
last_phrase (Err (Record f)) = Silent

abbrev pub others_said : Result Way FindError → List ℕ
others_said (Ok w) = []
others_said (Err (Full x)) = later_said x 32 ++ phrase last_lines (Row last_close_row 0 0 0 0)
others_said (Err FullInClass) = []
others_said (Err (FullSearched n)) = []
others_said (Err (NotKnown n)) = []
others_said (Err TableShort) = []
others_said (Err (Record f)) = []

-- a refusal has no last word: its number has its sentence
abbrev pub last_word : Result Way FindError → List ℕ
last_word reply = phrase last_lines (last_phrase reply) ++ others_said reply
