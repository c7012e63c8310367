-- The parts of a place of a plan as it is shown, and the lines of a plan for a spreadsheet. @1 and @2 are the values.
use Rattle.std.specs.Prelude.{ℕ, List, [], ◌∷◌}
use Prim.Native.String.{String}

unfoldable pub place_lines : List String
place_lines = "@1" ∷ "+@1" ∷ "!" ∷ "#" ∷ "." ∷ []

-- ---- the rows by name

-- the first cell that sends there, and any other
abbrev pub first_cell_row : ℕ
first_cell_row = 0

abbrev pub next_cell_row : ℕ
next_cell_row = 1

-- two of the cells clash
abbrev pub clash_row : ℕ
clash_row = 2

-- the place is blocked
abbrev pub place_blocked_row : ℕ
place_blocked_row = 3

-- no cell sends there, and it is not blocked
abbrev pub idle_row : ℕ
idle_row = 4

-- ---- for a spreadsheet: "slot, channel, cells", and what the marks say

unfoldable pub spread_lines : List String
spread_lines =
    "slot,channel,cells,marks\r\n" ∷ "@1,@2," ∷ ",\r\n" ∷ ",clash\r\n" ∷ ",blocked\r\n" ∷ ",clash and blocked\r\n" ∷ []

abbrev pub spread_head_row : ℕ
spread_head_row = 0

-- slot, channel
abbrev pub spread_place_row : ℕ
spread_place_row = 1

-- its marks in words
abbrev pub spread_plain_row : ℕ
spread_plain_row = 2

abbrev pub spread_clash_row : ℕ
spread_clash_row = 3

abbrev pub spread_blocked_row : ℕ
spread_blocked_row = 4

abbrev pub spread_both_row : ℕ
spread_both_row = 5
