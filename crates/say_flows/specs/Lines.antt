-- The sentences of `duggfrask admit`, one to a row. @1 to @4 are the values of a row.
use Rattle.std.specs.Prelude.{ℕ, List, [], ◌∷◌}
use Prim.Native.String.{String, ◌++◌}

unfoldable pub admit_lines : List String
admit_lines =
    "the loads of the site are set aside\n"
    ∷ "flow @1: cell @2, share @3, value @4, taken\n"
    ∷ "flow @1: cell @2, share @3, value @4, not taken\n"
    ∷ "worth @1\n"
    ∷ "on top of the loads of the site\n"
    ∷ []

-- a longer one has a table of its own. Up to its second colon it is the sentence of number 19, as crate `say_refusals` has it
unfoldable pub nineteen_lines : List String
nineteen_lines =
    ("refused 19: the site is not nested when all its cells count, the spare ones too: "
    ++ "cells @1 and @2 clash with cell @3, and not with one another\n")
    ∷ []

-- ---- the rows by name

abbrev pub aside_row : ℕ
aside_row = 0

abbrev pub taken_row : ℕ
taken_row = 1

abbrev pub left_row : ℕ
left_row = 2

abbrev pub worth_row : ℕ
worth_row = 3

abbrev pub beside_row : ℕ
beside_row = 4

abbrev pub nineteen_row : ℕ
nineteen_row = 0
