-- The sentences of a search, one to a row: those of `duggfrask search`, and the one of a search that goes on. @1 is the value of a row. What each
-- means stands in specs/Means.antt.
use Rattle.std.specs.Prelude.{ℕ, List, [], ◌∷◌}
use Prim.Native.String.{String}

unfoldable pub search_lines : List String
search_lines =
    "planned after @1 tries\n"
    ∷ "planned after 1 try\n"
    ∷ "full: no plan exists, and @1 tries show it\n"
    ∷ "full: no plan exists, and 1 try shows it\n"
    ∷ "not known: stopped at @1 tries\n"
    ∷ "not known: stopped at 1 try\n"
    ∷ "not decided after @1 tries; searching on\n"
    ∷ []

-- ---- the rows by name

-- the first of two: the second is of one try
abbrev pub planned_after_row : ℕ
planned_after_row = 0

abbrev pub exhausted_row : ℕ
exhausted_row = 2

abbrev pub stopped_row : ℕ
stopped_row = 4

abbrev pub on_row : ℕ
on_row = 6
