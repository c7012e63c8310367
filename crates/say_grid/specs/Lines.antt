-- The parts of the lines of a plan by channels and slots. @1 is the value. The rows that begin a line have ten letters each.
use Rattle.std.specs.Prelude.{ℕ, List, [], ◌∷◌}
use Prim.Native.String.{String}

unfoldable pub grid_lines : List String
grid_lines =
    "@1" ∷ "slot      " ∷ "channel @1 " ∷ "channel @1" ∷ " " ∷ "\n" ∷ ". nobody sends   ! two cells clash   # blocked\n" ∷ []

-- ---- the rows by name

-- the number of a slot
abbrev pub slot_number_row : ℕ
slot_number_row = 0

-- the first line of a piece begins
abbrev pub grid_slots_row : ℕ
grid_slots_row = 1

-- the line of a channel begins, of a number with one digit and with two
abbrev pub channel_row : ℕ
channel_row = 2

abbrev pub long_channel_row : ℕ
long_channel_row = 3

abbrev pub blank_row : ℕ
blank_row = 4

abbrev pub grid_end_row : ℕ
grid_end_row = 5

-- what the marks mean
abbrev pub legend_row : ℕ
legend_row = 6
