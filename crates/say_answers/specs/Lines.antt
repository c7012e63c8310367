-- The sentences of an answer of any call, one to a row: that of a call that is done has the call's number, row 0 is said of a call that is not known. After
-- them the other forms of calls that have more than one, and the refusals that come with more than a place. @1 to @3 are the values of the answer, @a to @c
-- the s of a plural.
use Rattle.std.specs.Prelude.{ℕ, List, [], ◌∷◌}
use Prim.Native.String.{String}

unfoldable pub answer_lines : List String
answer_lines =
    "done\n"
    ∷ "the site record is in order\n"
    ∷ "the two cells do not clash\n"
    ∷ "the site with the new load stands beside the answer\n"
    ∷ "the site with the new reach stands beside the answer\n"
    ∷ "the site without this reach stands beside the answer\n"
    ∷ "the load test holds\n"
    ∷ "chained\n"
    ∷ "nested\n"
    ∷ "it takes @1 open channel-slot@a, and fewer are never enough\n"
    ∷ "the heaviest clash has load @1; its cells as one number: @2\n"
    ∷ "the plan is in the table\n"
    ∷ "a plan, which is in the table; tries made: @2\n"
    ∷ "a plan, which is in the table: by the planner\n"
    ∷ "these cells alone do not show that no plan exists; their load: @2\n"
    ∷ "the table is valid\n"
    ∷ "the plan is in the words\n"
    ∷ "the words are valid\n"
    ∷ "the words are written\n"
    ∷ "the table is written\n"
    ∷ "valid as it is: nothing to change\n"
    ∷ "the record has the new load, and the table is its plan\n"
    ∷ "the site in new numbers stands beside the answer, and so do both lists of numbers\n"
    ∷ "the rows are in the table in old numbers\n"
    ∷ "share @1 fragment@a in a superframe, queue at most @2 fragment@b, delay at most @3 slot@c\n"
    ∷ "share @1 fragment@a in a superframe, queue at most @2 fragment@b, delay at most @3 slot@c\n"
    ∷ "the number of the set is @1: flow 1 weighs 1, flow 2 weighs 2, flow 3 weighs 4, and so on\n"
    ∷ "the number of the set is @1: flow 1 weighs 1, flow 2 weighs 2, flow 3 weighs 4, and so on\n"
    ∷ "the site stands beside the answer\n"
    ∷ "the site file has @1 byte@a\n"
    ∷ "cells, slots and channels stand beside the answer, and the plan is in the table\n"
    ∷ "the plan file has @1 byte@a\n"
    ∷ "the site stands beside the answer\n"
    ∷ "the sheet has @1 byte@a\n"
    ∷ "the tidied sheet has @1 byte@a\n"
    ∷ "the text has @1 byte@a\n"
    ∷ "the text has @1 byte@a\n"
    ∷ "the text has @1 byte@a\n"
    ∷ "the library has version @1\n"
    ∷ "the two cells clash\n"
    ∷ "cell @1 is over by @2 fragment@b\n"
    ∷ "not chained: cells @1 and @3 clash, and cell @2 between them does not clash with cell @1\n"
    ∷ "not nested: cells @1 and @2 clash with cell @3, and not with one another\n"
    ∷ "@1 open channel-slot@a will do, and fewer may be enough\n"
    ∷ "no plan exists; tries made: @2\n"
    ∷ "not known, the limit is met; tries made: @2\n"
    ∷ "no plan exists: these cells clash with one another, and their load is above the open channel-slots: @2\n"
    ∷ "mended with @1 change@a\n"
    ∷ "a plan, which is in the table: by the planner, with the cells in new numbers\n"
    ∷ "a plan, which is in the table: by a search; tries made: @3\n"
    ∷ "no plan exists: some cells clash with one another and are over; as one number: @3\n"
    ∷ "no plan exists: by the planner, with the cells in new numbers\n"
    ∷ "no plan exists: by a search; tries made: @3\n"
    ∷ "not known; tries made: @3\n"
    ∷ "refused 5, cell @1: no room for @2 of its fragments\n"
    ∷ "refused 6, position @1: cells @2 and @3 clash, and both send at this position\n"
    ∷ "refused 7, cell @1: it sends more or less often in a superframe than its load says: @2 time@b\n"
    ∷ "refused 22, position @1: cell @2 sends at a blocked position\n"
    ∷ "refused 13: the lent output is too short; bytes needed: @1\n"
    ∷ "refused 13: the list of changes is too short; changes: @1\n"
    ∷ []

-- ---- the calls by number, as the header has them: those that are asked for

abbrev pub clash_asked : ℕ
clash_asked = 2

abbrev pub load_test_asked : ℕ
load_test_asked = 6

abbrev pub chain_asked : ℕ
chain_asked = 7

abbrev pub class_asked : ℕ
class_asked = 8

abbrev pub least_asked : ℕ
least_asked = 9

abbrev pub search_asked : ℕ
search_asked = 12

abbrev pub find_asked : ℕ
find_asked = 13

abbrev pub over_full_asked : ℕ
over_full_asked = 14

abbrev pub mend_asked : ℕ
mend_asked = 20

abbrev pub admit_asked : ℕ
admit_asked = 26

abbrev pub admit_beside_asked : ℕ
admit_beside_asked = 27

abbrev pub read_site_asked : ℕ
read_site_asked = 28

abbrev pub read_plan_asked : ℕ
read_plan_asked = 30

abbrev pub last_asked : ℕ
last_asked = 38

-- ---- the rows by name

abbrev pub clashes_says : ℕ
clashes_says = 39

abbrev pub over_says : ℕ
over_says = 40

abbrev pub broken_says : ℕ
broken_says = 41

abbrev pub split_says : ℕ
split_says = 42

abbrev pub enough_says : ℕ
enough_says = 43

abbrev pub exhausted_says : ℕ
exhausted_says = 44

abbrev pub limit_says : ℕ
limit_says = 45

abbrev pub shown_says : ℕ
shown_says = 46

abbrev pub mended_says : ℕ
mended_says = 47

abbrev pub anew_says : ℕ
anew_says = 48

abbrev pub searched_says : ℕ
searched_says = 49

abbrev pub full_says : ℕ
full_says = 50

abbrev pub full_anew_says : ℕ
full_anew_says = 51

abbrev pub full_searched_says : ℕ
full_searched_says = 52

abbrev pub not_known_says : ℕ
not_known_says = 53

abbrev pub no_room_says : ℕ
no_room_says = 54

abbrev pub both_send_says : ℕ
both_send_says = 55

abbrev pub count_says : ℕ
count_says = 56

abbrev pub blocked_says : ℕ
blocked_says = 57

abbrev pub short_says : ℕ
short_says = 58

abbrev pub short_list_says : ℕ
short_list_says = 59
