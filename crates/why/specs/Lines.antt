-- The sentences of `duggfrask why`, one to a row. @1 to @4 are the values of a row, @a to @d the s of a plural. What each sentence means stands in
-- specs/Means.antt.
use Rattle.std.specs.Prelude.{ℕ, List, [], ◌∷◌}
use Prim.Native.String.{String}

unfoldable pub why_lines : List String
why_lines =
    "chained\n"
    ∷ "not chained: cells @1 and @3 clash, and cell @2 between them does not clash with cell @1\n"
    ∷ "the load test holds\n"
    ∷ "the load test fails: cell @1 is over by @2 fragment@b\n"
    ∷ "the load test fails: cell @1 is over by @2 fragment@b; on a site that is not nested that alone decides nothing\n"
    ∷ "planned\n"
    ∷ "not planned: cell @1 is @2 fragment@b short. The site is full: no plan exists\n"
    ∷ "not planned: cell @1 is @2 fragment@b short. This order found no room, which alone decides nothing\n"
    ∷ "it takes @1 channel-slot@a, and no fewer; the site has @2\n"
    ∷ "it takes @1 channel-slot@a, and no fewer; the site has @2 open\n"
    ∷ "it takes at least @1 channel-slot@a, and @2 will do; the site has @3\n"
    ∷ "it takes at least @1 channel-slot@a, and @2 will do; the site has @3 open\n"
    ∷ "of all cells that clash with one another these need the most, @1:\n"
    ∷ "  cell @1, load @2\n"
    ∷ "with @1 channel@a: @2 slot@b, and no fewer\n"
    ∷ "with @1 channel@a: at least @2 slot@b, and @3 will do\n"
    ∷ "with @1 channel@a: at least @2 slot@b\n"
    ∷ "with @1 channel@a: more than 128 slots, which no site has\n"
    ∷ "with @1 slot@a: @2 channel@b, and no fewer\n"
    ∷ "with @1 slot@a: at least @2 channel@b, and @3 will do\n"
    ∷ "with @1 slot@a: at least @2 channel@b\n"
    ∷ "with @1 slot@a: more than 16 channels, which no site has\n"
    ∷ "nested: of each cell, the lower cells that clash with it clash with one another\n"
    ∷ "not nested: cells @1 and @2 clash with cell @3, and not with one another\n"
    ∷ []

-- ---- the rows by name

abbrev pub chained_row : ℕ
chained_row = 0

abbrev pub broken_row : ℕ
broken_row = 1

abbrev pub holds_row : ℕ
holds_row = 2

abbrev pub over_row : ℕ
over_row = 3

abbrev pub open_over_row : ℕ
open_over_row = 4

abbrev pub plans_row : ℕ
plans_row = 5

abbrev pub full_row : ℕ
full_row = 6

abbrev pub gave_up_row : ℕ
gave_up_row = 7

-- the first of two: the second says `open`
abbrev pub exact_row : ℕ
exact_row = 8

abbrev pub range_row : ℕ
range_row = 10

abbrev pub set_row : ℕ
set_row = 12

abbrev pub cell_row : ℕ
cell_row = 13

-- the first of four: so many, and no fewer; at least so many, and so many will do; at least so many; more than any site has
abbrev pub slots_row : ℕ
slots_row = 14

abbrev pub channels_row : ℕ
channels_row = 18

abbrev pub nested_row : ℕ
nested_row = 22

abbrev pub split_row : ℕ
split_row = 23
