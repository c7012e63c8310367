-- An answer of any call in words: "gives an answer of any call in the words of NUMBERS.md". A call that is done has its row, or another of its forms by its
-- values; a refusal has the sentence of its number, with the place where the values have one. 5, 6, 7, 13 and 22 come with more than a place, and have rows of
-- their own.
use Rattle.std.specs.Prelude.{ℕ, List, eqb, ltb, Option, Some, None}
use Rattle.laws.specs.Choice.{pick}
use Rattle.phrases.specs.declared.Phrase.TheVariants.{Row}
use Rattle.say_refusals.specs.Sentences.{sentence}
use Rattle.say_refusals.specs.declared.Place.{Place}
use Rattle.say_refusals.specs.declared.Place.TheVariants.{Byte, PlanByte, Line, Cell, Flow, Position}
use Rattle.say_refusals.specs.declared.Sentence.{Sentence}
use Rattle.say_refusals.specs.declared.Sentence.TheVariants.{Plain, Refusal}
use Rattle.say_answers.specs.Lines.{answer_lines, clash_asked, load_test_asked, chain_asked, class_asked, least_asked, search_asked, find_asked}
use Rattle.say_answers.specs.Lines.{over_full_asked}
use Rattle.say_answers.specs.Lines.{mend_asked, admit_asked, admit_beside_asked, read_site_asked, read_plan_asked, last_asked}
use Rattle.say_answers.specs.Lines.{clashes_says, over_says, broken_says, split_says, enough_says, exhausted_says, limit_says, shown_says, mended_says}
use Rattle.say_answers.specs.Lines.{anew_says}
use Rattle.say_answers.specs.Lines.{searched_says, full_says, full_anew_says, full_searched_says, not_known_says, no_room_says, both_send_says, count_says}
use Rattle.say_answers.specs.Lines.{blocked_says, short_says, short_list_says}

-- ---- done: a, b and c are the values

-- a search that found no plan: "1: none exists; 2: the limit is met"
abbrev pub search_says : ℕ → ℕ
search_says a = pick (eqb a 1) exhausted_says limit_says

-- the second form of a call; its first where it has no other
unfoldable pub other_says : ℕ → ℕ → ℕ
other_says call a =
    pick (eqb call clash_asked) clashes_says
    (pick (eqb call load_test_asked) over_says
    (pick (eqb call chain_asked) broken_says
    (pick (eqb call class_asked) split_says
    (pick (eqb call least_asked) enough_says
    (pick (eqb call search_asked) (search_says a)
    (pick (eqb call over_full_asked) shown_says
    (pick (eqb call mend_asked) mended_says
    call)))))))

-- a plan by any way: "0: a plan .. 1: none exists; 2: not known. Then by which way: 0 the planner, 1 a set of cells that is over, 2 in new numbers, 3 the
-- search"
abbrev pub found_says : ℕ → ℕ
found_says b = pick (eqb b 2) anew_says (pick (eqb b 3) searched_says find_asked)

abbrev pub none_says : ℕ → ℕ
none_says b = pick (eqb b 1) full_says (pick (eqb b 2) full_anew_says full_searched_says)

abbrev pub find_says : ℕ → ℕ → ℕ
find_says a b = pick (eqb a 0) (found_says b) (pick (eqb a 1) (none_says b) not_known_says)

-- the value that says which form it is: the first, and of `least` the second
abbrev pub form_by : ℕ → ℕ → ℕ → ℕ
form_by call a b = pick (eqb call least_asked) b a

unfoldable pub done_says : ℕ → ℕ → ℕ → ℕ
done_says call a b =
    pick (ltb last_asked call) 0
    (pick (eqb call find_asked) (find_says a b)
    (pick (eqb (form_by call a b) 0) call
    (other_says call a)))

-- ---- refused

-- 13: "how many bytes the file or the sheet needs; for the mender how many changes there are"
abbrev pub short_of : ℕ → ℕ
short_of call = pick (eqb call mend_asked) short_list_says short_says

-- the row of a refusal that comes with more than a place; 0 for any other
unfoldable pub own_says : ℕ → ℕ → ℕ
own_says call number =
    pick (eqb number 5) no_room_says
    (pick (eqb number 6) both_send_says
    (pick (eqb number 7) count_says
    (pick (eqb number 22) blocked_says
    (pick (eqb number 13) (short_of call) 0))))

-- of a record: the cell, or the position
abbrev pub record_place : ℕ → ℕ → Option Place
record_place number a = pick (eqb number 2) (Some (Cell a)) (pick (eqb number 3) (Some (Cell a)) (pick (eqb number 20) (Some (Position a)) None))

-- of an admission: the flow. Its 2 may be the record's: "dugg_fault tells which it is"
abbrev pub flow_place : ℕ → ℕ → Option Place
flow_place number a = pick (eqb number 15) (Some (Flow a)) (pick (eqb number 16) (Some (Flow a)) (pick (eqb number 2) None (record_place number a)))

-- of a file: the offset; of a sheet: the line
unfoldable pub place_given : ℕ → ℕ → ℕ → Option Place
place_given call number a =
    pick (eqb number 4) None
    (pick (eqb call read_site_asked) (Some (Byte a))
    (pick (eqb call read_plan_asked) (Some (PlanByte a))
    (pick (eqb number 17) (Some (Line a))
    (pick (eqb call admit_asked) (flow_place number a)
    (pick (eqb call admit_beside_asked) (flow_place number a)
    (record_place number a))))))

-- ---- all of it

unfoldable pub answer_says : ℕ → ℕ → ℕ → ℕ → ℕ → Sentence
answer_says call number a b c =
    pick (eqb number 0) (Plain (Row (done_says call a b) a b c 0))
    (pick (eqb (own_says call number) 0) (Refusal number (place_given call number a))
    (Plain (Row (own_says call number) a b c 0)))

abbrev pub call_said : ℕ → ℕ → ℕ → ℕ → ℕ → List ℕ
call_said call number a b c = sentence answer_lines (answer_says call number a b c)
