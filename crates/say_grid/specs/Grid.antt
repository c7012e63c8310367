-- `show SITE [PLAN]`: "the plan in the terminal, a line for each channel and a column for each slot, at each place the cells that send there"; "wide plans in
-- pieces that fit the terminal's width". Line 0 of a piece has the numbers of its slots, and line f those of channel f, from 1. Slots are counted from 0 here.
use Rattle.std.specs.Prelude.{ℕ, ◌+◌, ◌*◌, ◌-◌, Bool, ◌&&◌, not, List, [], ◌∷◌, ◌++◌, eqb, ltb, leb, length}
use Rattle.laws.specs.Choice.{pick}
use Rattle.laws.specs.Most.{most}
use Rattle.laws.specs.Search.{first}
use Rattle.laws.specs.Sum.{sum}
use Rattle.faults.specs.Faults.{in_turn}
use Rattle.site.specs.declared.Site.{Site}
use Rattle.phrases.specs.Phrases.{phrase}
use Rattle.phrases.specs.declared.Phrase.{Phrase}
use Rattle.phrases.specs.declared.Phrase.TheVariants.{Row}
use Rattle.say_faults.specs.Said.{judgeable}
use Rattle.places.specs.Places.{place_of, place_said}
use Rattle.say_grid.specs.Lines.{grid_lines, slot_number_row, grid_slots_row, channel_row, long_channel_row, grid_end_row}

-- "slot t and channel f (from 1) have position (t-1)F + (f-1)": what stands in a line and the column of a slot: the slot's number, or a place
unfoldable pub entry_said : Site → List ℕ → (line slot : ℕ) → List ℕ
entry_said s t line slot =
    pick (eqb line 0) (phrase grid_lines (Row slot_number_row (slot + 1) 0 0 0)) (place_said (place_of s t (slot * s.channels + (line - 1))))

-- a column is as wide as the widest that stands in it
unfoldable pub column_width : Site → List ℕ → ℕ → ℕ
column_width s t slot = most (λ line. length (entry_said s t line slot)) (s.channels + 1)

abbrev pub blanks : ℕ → List ℕ
blanks n = in_turn (λ k. 32 ∷ []) n

-- and two blanks wider; what stands in it is at its right end
abbrev pub column_said : Site → List ℕ → (line slot : ℕ) → List ℕ
column_said s t line slot = blanks (column_width s t slot + 2 - length (entry_said s t line slot)) ++ entry_said s t line slot

-- the columns of so many slots
abbrev pub columns_said : Site → List ℕ → (line from many : ℕ) → List ℕ
columns_said s t line from many = in_turn (λ j. column_said s t line (from + j)) many

-- how a line begins: ten letters
abbrev pub line_head : ℕ → Phrase
line_head line = pick (eqb line 0) (Row grid_slots_row 0 0 0 0) (pick (ltb line 10) (Row channel_row line 0 0 0) (Row long_channel_row line 0 0 0))

-- the line and its slots are the site's, and the table can be judged
unfoldable pub line_there : Site → List ℕ → (line from many : ℕ) → Bool
line_there s t line from many = judgeable s t && (not (ltb s.channels line) && (not (ltb s.slots from) && leb many (s.slots - from)))

-- a line of a piece
abbrev pub whole_line : Site → List ℕ → (line from many : ℕ) → List ℕ
whole_line s t line from many =
    phrase grid_lines (line_head line) ++ (columns_said s t line from many ++ phrase grid_lines (Row grid_end_row 0 0 0 0))

unfoldable pub grid_line : Site → List ℕ → (line from many : ℕ) → List ℕ
grid_line s t line from many = pick (line_there s t line from many) (whole_line s t line from many) []

-- ---- the pieces

-- how wide the lines of a piece are
unfoldable pub piece_width : Site → List ℕ → (from many : ℕ) → ℕ
piece_width s t from many = 10 + sum (λ j. column_width s t (from + j) + 2) many

-- how many slots the piece from a slot on has: as many as fit the width, and one where that one does not fit
unfoldable pub fitting : Site → List ℕ → (width from : ℕ) → ℕ
fitting s t width from = first (λ m. ltb width (piece_width s t from (m + 1))) 1 (s.slots - from)

-- none where there are no slots more, or the table can't be judged
unfoldable pub piece_slots : Site → List ℕ → (width from : ℕ) → ℕ
piece_slots s t width from = pick (judgeable s t && ltb from s.slots) (fitting s t width from) 0
