-- Answers letter by letter: each call that is done, each form of a call that has several, each place of a refusal, and each refusal that comes with more.
-- Assumes nothing.
use mathlib.Core.Path.{◌≡◌, refl}
use mathlib.Core.List.{[], ◌∷◌}
use Rattle.std.specs.Prelude.{Some, None}
use Rattle.text.specs.Decimal.{digits_of, decimal}
use Rattle.speech.specs.Speech.{bytes, spoken}
use Rattle.say_refusals.specs.Said.{refused_line}
use Rattle.say_refusals.specs.declared.Place.TheVariants.{Byte, PlanByte, Line, Cell, Flow, Position}
use Rattle.say_answers.specs.Lines.{answer_lines}
use Rattle.say_answers.specs.Said.{other_says, done_says, own_says, place_given, answer_says, call_said}

-- each call that is done, from 1 to 38, in its own words; of a call with several forms the first
done-said :
    call_said 1 0 0 0 0 ∷ call_said 2 0 0 0 0 ∷ call_said 3 0 0 0 0 ∷ call_said 4 0 0 0 0 ∷ call_said 5 0 0 0 0 ∷ call_said 6 0 0 0 0 ∷ call_said 7 0 0 0 0
    ∷ call_said 8 0 0 0 0 ∷ call_said 9 0 1 0 0 ∷ call_said 10 0 8 5 0 ∷ call_said 11 0 0 0 0 ∷ call_said 12 0 0 9 0 ∷ call_said 13 0 0 0 0
    ∷ call_said 14 0 0 5 0 ∷ call_said 15 0 0 0 0 ∷ call_said 16 0 0 0 0 ∷ call_said 17 0 0 0 0 ∷ call_said 18 0 0 0 0 ∷ call_said 19 0 0 0 0
    ∷ call_said 20 0 0 0 0 ∷ call_said 21 0 0 0 0 ∷ call_said 22 0 0 0 0 ∷ call_said 23 0 0 0 0 ∷ call_said 24 0 4 1 9 ∷ call_said 25 0 1 7 1
    ∷ call_said 26 0 5 0 0 ∷ call_said 27 0 6 0 0 ∷ call_said 28 0 0 0 0 ∷ call_said 29 0 28 0 0 ∷ call_said 30 0 0 0 0 ∷ call_said 31 0 17 0 0
    ∷ call_said 32 0 0 0 0 ∷ call_said 33 0 44 0 0 ∷ call_said 34 0 43 0 0 ∷ call_said 35 0 1 0 0 ∷ call_said 36 0 2 0 0 ∷ call_said 37 0 3 0 0
    ∷ call_said 38 0 7 0 0 ∷ []
    ≡ bytes "the site record is in order\n" ∷ bytes "the two cells do not clash\n" ∷ bytes "the site with the new load stands beside the answer\n"
    ∷ bytes "the site with the new reach stands beside the answer\n" ∷ bytes "the site without this reach stands beside the answer\n"
    ∷ bytes "the load test holds\n" ∷ bytes "chained\n" ∷ bytes "nested\n" ∷ bytes "it takes 1 open channel-slot, and fewer are never enough\n"
    ∷ bytes "the heaviest clash has load 8; its cells as one number: 5\n" ∷ bytes "the plan is in the table\n"
    ∷ bytes "a plan, which is in the table; tries made: 9\n" ∷ bytes "a plan, which is in the table: by the planner\n"
    ∷ bytes "these cells alone do not show that no plan exists; their load: 5\n" ∷ bytes "the table is valid\n" ∷ bytes "the plan is in the words\n"
    ∷ bytes "the words are valid\n" ∷ bytes "the words are written\n" ∷ bytes "the table is written\n" ∷ bytes "valid as it is: nothing to change\n"
    ∷ bytes "the record has the new load, and the table is its plan\n"
    ∷ bytes "the site in new numbers stands beside the answer, and so do both lists of numbers\n" ∷ bytes "the rows are in the table in old numbers\n"
    ∷ bytes "share 4 fragments in a superframe, queue at most 1 fragment, delay at most 9 slots\n"
    ∷ bytes "share 1 fragment in a superframe, queue at most 7 fragments, delay at most 1 slot\n"
    ∷ bytes "the number of the set is 5: flow 1 weighs 1, flow 2 weighs 2, flow 3 weighs 4, and so on\n"
    ∷ bytes "the number of the set is 6: flow 1 weighs 1, flow 2 weighs 2, flow 3 weighs 4, and so on\n" ∷ bytes "the site stands beside the answer\n"
    ∷ bytes "the site file has 28 bytes\n" ∷ bytes "cells, slots and channels stand beside the answer, and the plan is in the table\n"
    ∷ bytes "the plan file has 17 bytes\n" ∷ bytes "the site stands beside the answer\n" ∷ bytes "the sheet has 44 bytes\n"
    ∷ bytes "the tidied sheet has 43 bytes\n" ∷ bytes "the text has 1 byte\n" ∷ bytes "the text has 2 bytes\n" ∷ bytes "the text has 3 bytes\n"
    ∷ bytes "the library has version 7\n" ∷ []
unfolding answer_lines other_says done_says answer_says spoken decimal digits_of
done-said = refl

-- clash, load test, chain, nested, least, over: both forms of each; and a call that is not known
judges-said :
    call_said 2 0 0 0 0 ∷ call_said 2 0 1 0 0 ∷ call_said 6 0 0 0 0 ∷ call_said 6 0 3 2 0 ∷ call_said 7 0 1 2 3 ∷ call_said 8 0 1 2 3
    ∷ call_said 9 0 7 0 0 ∷ call_said 9 0 7 1 0 ∷ call_said 14 0 0 5 0 ∷ call_said 14 0 1 5 0 ∷ call_said 39 0 4 5 6 ∷ []
    ≡ bytes "the two cells do not clash\n" ∷ bytes "the two cells clash\n" ∷ bytes "the load test holds\n"
    ∷ bytes "cell 3 is over by 2 fragments\n"
    ∷ bytes "not chained: cells 1 and 3 clash, and cell 2 between them does not clash with cell 1\n"
    ∷ bytes "not nested: cells 1 and 2 clash with cell 3, and not with one another\n"
    ∷ bytes "it takes 7 open channel-slots, and fewer are never enough\n"
    ∷ bytes "7 open channel-slots will do, and fewer may be enough\n"
    ∷ bytes "these cells alone do not show that no plan exists; their load: 5\n"
    ∷ bytes "no plan exists: these cells clash with one another, and their load is above the open channel-slots: 5\n"
    ∷ bytes "done\n" ∷ []
unfolding answer_lines other_says done_says answer_says spoken decimal digits_of
judges-said = refl

-- the search and a plan by any way: a plan, none exists, not known
found-said :
    call_said 12 0 0 9 0 ∷ call_said 12 0 1 9 0 ∷ call_said 12 0 2 9 0 ∷ call_said 13 0 0 0 0 ∷ call_said 13 0 0 2 0 ∷ call_said 13 0 0 3 9
    ∷ call_said 13 0 1 1 6 ∷ call_said 13 0 1 2 0 ∷ call_said 13 0 1 3 9 ∷ call_said 13 0 2 3 9 ∷ call_said 20 0 0 0 0 ∷ call_said 20 0 1 0 0 ∷ []
    ≡ bytes "a plan, which is in the table; tries made: 9\n" ∷ bytes "no plan exists; tries made: 9\n"
    ∷ bytes "not known, the limit is met; tries made: 9\n" ∷ bytes "a plan, which is in the table: by the planner\n"
    ∷ bytes "a plan, which is in the table: by the planner, with the cells in new numbers\n"
    ∷ bytes "a plan, which is in the table: by a search; tries made: 9\n"
    ∷ bytes "no plan exists: some cells clash with one another and are over; as one number: 6\n"
    ∷ bytes "no plan exists: by the planner, with the cells in new numbers\n" ∷ bytes "no plan exists: by a search; tries made: 9\n"
    ∷ bytes "not known; tries made: 9\n" ∷ bytes "valid as it is: nothing to change\n" ∷ bytes "mended with 1 change\n" ∷ []
unfolding answer_lines other_says done_says answer_says spoken decimal digits_of
found-said = refl

-- the refusals that come with more than a place
more-said :
    call_said 11 5 2 4 0 ∷ call_said 15 6 8 1 2 ∷ call_said 15 7 3 5 0 ∷ call_said 15 22 8 1 0 ∷ call_said 29 13 40 0 0 ∷ call_said 20 13 4 0 0 ∷ []
    ≡ bytes "refused 5, cell 2: no room for 4 of its fragments\n"
    ∷ bytes "refused 6, position 8: cells 1 and 2 clash, and both send at this position\n"
    ∷ bytes "refused 7, cell 3: it sends more or less often in a superframe than its load says: 5 times\n"
    ∷ bytes "refused 22, position 8: cell 1 sends at a blocked position\n"
    ∷ bytes "refused 13: the lent output is too short; bytes needed: 40\n"
    ∷ bytes "refused 13: the list of changes is too short; changes: 4\n" ∷ []
unfolding answer_lines own_says answer_says spoken decimal digits_of
more-said = refl

-- the places, whose letters are in crate `say_refusals`
places-said :
    call_said 11 2 7 0 0 ∷ call_said 26 2 7 0 0 ∷ call_said 26 3 7 0 0 ∷ call_said 27 15 7 0 0 ∷ call_said 24 15 0 0 0 ∷ call_said 28 9 7 0 0
    ∷ call_said 30 9 7 0 0 ∷ call_said 30 4 0 0 0 ∷ call_said 32 17 7 0 0 ∷ call_said 32 20 7 0 0 ∷ call_said 22 23 0 0 0 ∷ []
    ≡ refused_line 2 (Some (Cell 7)) ∷ refused_line 2 None ∷ refused_line 3 (Some (Cell 7)) ∷ refused_line 15 (Some (Flow 7)) ∷ refused_line 15 None
    ∷ refused_line 9 (Some (Byte 7)) ∷ refused_line 9 (Some (PlanByte 7)) ∷ refused_line 4 None ∷ refused_line 17 (Some (Line 7))
    ∷ refused_line 20 (Some (Position 7)) ∷ refused_line 23 None ∷ []
unfolding own_says place_given answer_says
places-said = refl
