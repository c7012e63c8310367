-- The last word of `duggfrask why`, and what `duggfrask find` says after it, one to a row. @1 to @4 are the values of a row, @a to @d the s of a plural.
use Rattle.std.specs.Prelude.{ℕ, List, [], ◌∷◌}
use Prim.Native.String.{String}

-- `planned; planned with the cells renumbered; planned by search; full (these cells); full (searched, so many tries); not known (so many tries)`
unfoldable pub last_lines : List String
last_lines =
    "planned"
    ∷ "planned with the cells renumbered"
    ∷ "planned by search (@1 tries)"
    ∷ "planned by search (1 try)"
    ∷ "full (searched, @1 tries)"
    ∷ "full (searched, 1 try)"
    ∷ "not known (@1 tries)"
    ∷ "not known (1 try)"
    ∷ "full (renumbered)"
    ∷ "full (cell @1"
    ∷ "full (cells @1"
    ∷ ", @1"
    ∷ ")"
    ∷ []

-- what `find` says after that word
unfoldable pub find_lines : List String
find_lines =
    ": @1 cell@a, @2 slot@b, @3 channel@c\n"
    ∷ ": it needs @1 channel-slot@a, and the site has @2\n"
    ∷ ": it needs @1 channel-slot@a, and the site has @2 open\n"
    ∷ ": they clash with one another and need @1 channel-slot@a, and the site has @2\n"
    ∷ ": they clash with one another and need @1 channel-slot@a, and the site has @2 open\n"
    ∷ ": no plan exists\n"
    ∷ ": the search stopped there\n"
    ∷ ": over 64 open positions or 24 fragments, which is too many to search\n"
    ∷ []

-- ---- the rows by name

abbrev pub last_planned_row : ℕ
last_planned_row = 0

abbrev pub last_renumbered_row : ℕ
last_renumbered_row = 1

-- the first of two: the second is of one try
abbrev pub last_searched_row : ℕ
last_searched_row = 2

abbrev pub last_exhausted_row : ℕ
last_exhausted_row = 4

abbrev pub last_unknown_row : ℕ
last_unknown_row = 6

-- never said: `never-in-class`, crate `finder`
abbrev pub last_in_class_row : ℕ
last_in_class_row = 8

-- the lowest cell of a set of one, and of a set of more
abbrev pub last_cell_row : ℕ
last_cell_row = 9

abbrev pub last_cells_row : ℕ
last_cells_row = 10

abbrev pub last_later_row : ℕ
last_later_row = 11

abbrev pub last_close_row : ℕ
last_close_row = 12

-- of `find`
abbrev pub found_sizes_row : ℕ
found_sizes_row = 0

-- of one cell, and of more; in each the second is said where something is blocked
abbrev pub it_needs_row : ℕ
it_needs_row = 1

abbrev pub they_need_row : ℕ
they_need_row = 3

abbrev pub no_plan_row : ℕ
no_plan_row = 5

abbrev pub stopped_there_row : ℕ
stopped_there_row = 6

abbrev pub too_large_row : ℕ
too_large_row = 7
