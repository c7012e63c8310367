-- The first line of the changes from one plan to another, one to a row. @1 is its value, @a the s of a plural.
use Rattle.std.specs.Prelude.{ℕ, List, [], ◌∷◌}
use Prim.Native.String.{String}

unfoldable pub diff_lines : List String
diff_lines = "no change\n" ∷ "@1 change@a\n" ∷ []

-- ---- the rows by name

abbrev pub no_change_row : ℕ
no_change_row = 0

abbrev pub changes_row : ℕ
changes_row = 1
