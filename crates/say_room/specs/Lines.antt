-- The sentences of `duggfrask room`, one to a row. @1 to @3 are the values of a row. What each means stands in specs/Means.antt.
use Rattle.std.specs.Prelude.{ℕ, List, [], ◌∷◌}
use Prim.Native.String.{String}

unfoldable pub room_lines : List String
room_lines =
    "cell @1, load @2: @3 more, and no more than that\n"
    ∷ "cell @1, load @2: no more\n"
    ∷ "cell @1, load @2: at least @3 more\n"
    ∷ ": no cell can carry more\n"
    ∷ ": whether it has a plan\n"
    ∷ "slots: @1 will do, @2 fewer than it has"
    ∷ "slots: @1 will do, as many as it has"
    ∷ "slots: @1 will do, @2 more than it has"
    ∷ "open channel-slots: @1 will do, @2 fewer than it has"
    ∷ "open channel-slots: @1 will do, as many as it has"
    ∷ "open channel-slots: @1 will do, @2 more than it has"
    ∷ "\n"
    ∷ "; with fewer no plan exists\n"
    ∷ "; with fewer than @1 no plan exists\n"
    ∷ "slots: with fewer than @1 no plan exists\n"
    ∷ "slots: 128, the most that a site has, are too few\n"
    ∷ []

-- ---- the rows by name

abbrev pub carries_row : ℕ
carries_row = 0

abbrev pub no_more_row : ℕ
no_more_row = 1

abbrev pub carries_least_row : ℕ
carries_least_row = 2

-- what stands after the last word of a site that is full, and of one of which it is not known
abbrev pub no_cell_row : ℕ
no_cell_row = 3

abbrev pub whether_row : ℕ
whether_row = 4

-- the first of three: fewer than it has, as many, more
abbrev pub do_slots_row : ℕ
do_slots_row = 5

abbrev pub do_open_row : ℕ
do_open_row = 8

abbrev pub line_end_row : ℕ
line_end_row = 11

abbrev pub fewer_row : ℕ
fewer_row = 12

abbrev pub fewer_than_row : ℕ
fewer_than_row = 13

abbrev pub least_slots_row : ℕ
least_slots_row = 14

abbrev pub too_few_row : ℕ
too_few_row = 15
