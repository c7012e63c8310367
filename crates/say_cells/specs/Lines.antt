-- The parts of the lines of a cell. @1 is the value.
use Rattle.std.specs.Prelude.{ℕ, List, [], ◌∷◌}
use Prim.Native.String.{String}

unfoldable pub sender_lines : List String
sender_lines = "cell @1:" ∷ "cell @1 sends nowhere\n" ∷ "  clashes:" ∷ "  blocked:" ∷ "\n" ∷ []

-- ---- the rows by name

abbrev pub sender_cell_row : ℕ
sender_cell_row = 0

abbrev pub nowhere_row : ℕ
nowhere_row = 1

-- of these reservations some clash, or are at blocked positions
abbrev pub sender_clash_row : ℕ
sender_clash_row = 2

abbrev pub barred_row : ℕ
barred_row = 3

abbrev pub cell_end_row : ℕ
cell_end_row = 4
