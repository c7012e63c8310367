-- The sentences of a change, one to a row: the cell, the slot, the channel, added or dropped. @1 to @4 are the values of a row.
use Rattle.std.specs.Prelude.{ℕ, List, [], ◌∷◌}
use Prim.Native.String.{String}

unfoldable pub change_lines : List String
change_lines =
    "cell @1: slot @2 channel @3 added\n"
    ∷ "cell @1: slot @2 channel @3 dropped\n"
    ∷ []

-- ---- the rows by name

abbrev pub added_row : ℕ
added_row = 0

abbrev pub dropped_row : ℕ
dropped_row = 1
