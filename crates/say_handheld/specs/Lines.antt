-- The sentences of a change of one load, one to a row. @1 to @4 are the values of a row.
use Rattle.std.specs.Prelude.{ℕ, List, [], ◌∷◌}
use Prim.Native.String.{String}

unfoldable pub handheld_lines : List String
handheld_lines =
    "planned: cell @1 now has load @2\n"
    ∷ "refused 5, cell @1: with this load there is no room for @2 of its fragments\n"
    ∷ []

-- ---- the rows by name

abbrev pub changed_row : ℕ
changed_row = 0

-- of the first cell without room, which need not be the cell whose load changes
abbrev pub lacking_row : ℕ
lacking_row = 1
