-- The sentences of a numbering, one to a row. @1 to @4 are the values of a row.
use Rattle.std.specs.Prelude.{ℕ, List, [], ◌∷◌}
use Prim.Native.String.{String}

unfoldable pub number_lines : List String
number_lines =
    "cell @1 is now cell @2\n"
    ∷ []

-- what `why` says of a site that is not nested
unfoldable pub anew_lines : List String
anew_lines =
    "no numbering of all its cells, idle ones too, is nested\n"
    ∷ []

-- ---- the rows by name

abbrev pub numbered_row : ℕ
numbered_row = 0

abbrev pub never_row : ℕ
never_row = 0
