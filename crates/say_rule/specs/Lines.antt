-- The sentences of a site's rule, one to a row. @1 to @4 are the values of a row.
use Rattle.std.specs.Prelude.{ℕ, List, [], ◌∷◌}
use Prim.Native.String.{String}

unfoldable pub rule_lines : List String
rule_lines =
    "rule 2: two cells clash also when some third cell is reached by both\n"
    ∷ "  @1 and @2 clash: both reach @3\n"
    ∷ []

-- ---- the rows by name

abbrev pub rule_row : ℕ
rule_row = 0

abbrev pub third_row : ℕ
third_row = 1
