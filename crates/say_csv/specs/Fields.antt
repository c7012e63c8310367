-- The fields of a line of the sheet: "refused: the number, and then all else is empty. found: planned, renumbered, searched, full, not known; tries where a
-- search was made; set: the cells with blanks between. plan: 0 valid, else the number, or `size`; changes: what mend would make, 0 for a valid plan, empty
-- where it finds no room; oneway: 1 or 0. Empty where there is nothing to say." A file that can't be read has no number: its field says `unread`.
use Rattle.std.specs.Prelude.{ℕ, zero, suc, ◌+◌, Bool, List, [], ◌++◌, ltb, Option, Some, None, Result, Ok, Err}
use Rattle.laws.specs.Bits.{bit_at}
use Rattle.laws.specs.Choice.{pick}
use Rattle.laws.specs.Sum.{bit}
use Rattle.site.specs.declared.Site.{Site}
use Rattle.records.specs.Given.{read_given}
use Rattle.records.specs.declared.Refusal.{Refusal}
use Rattle.checker.specs.Given.{check_given}
use Rattle.checker.specs.declared.CheckError.{CheckError}
use Rattle.mender.specs.declared.MendError.{MendError}
use Rattle.finder.specs.declared.Way.{Way}
use Rattle.finder.specs.declared.Way.TheVariants as way
use Rattle.finder.specs.declared.FindError.{FindError}
use Rattle.finder.specs.declared.FindError.TheVariants as find
use Rattle.auditing.specs.Row.{form_phrase}
use Rattle.auditing.specs.declared.Form.{Form}
use Rattle.auditing.specs.declared.Extent.{Extent}
use Rattle.phrases.specs.Phrases.{phrase}
use Rattle.phrases.specs.declared.Phrase.{Phrase}
use Rattle.phrases.specs.declared.Phrase.TheVariants.{Silent, Row}
use Rattle.finds.specs.Last.{lowest_of}
use Rattle.say_csv.specs.Lines.{csv_first, csv_lines, csv_refused_row, csv_unread_row, csv_chained_row}
use Rattle.say_csv.specs.Lines.{csv_planned_row, csv_anew_row, csv_searched_row, csv_full_row, csv_exhausted_row, csv_unknown_row, csv_not_found_row}
use Rattle.say_csv.specs.Lines.{csv_lowest_row, csv_later_row, csv_takes_row, csv_no_plan_row, csv_plan_unread_row, csv_size_row, csv_plan_refused_row}
use Rattle.say_csv.specs.Lines.{csv_checked_row, csv_not_mended_row}
use Rattle.say_csv.specs.declared.PlanTold.{PlanTold}
use Rattle.say_csv.specs.declared.PlanTold.TheVariants as plan

abbrev pub first_line : List ℕ
first_line = phrase csv_first (Row 0 0 0 0 0)

-- a row with its values
abbrev pub csv_part : (row a b c d : ℕ) → List ℕ
csv_part row a b c d = phrase csv_lines (Row row a b c d)

-- ---- a site file that is refused, or can't be read

abbrev pub refused_line_fields : Result Unit Refusal → List ℕ
refused_line_fields answer = csv_part csv_refused_row (read_given answer).number 0 0 0

abbrev pub unread_fields : List ℕ
unread_fields = csv_part csv_unread_row 0 0 0 0

-- ---- the site

-- what is found, and the tries
abbrev pub found_fields : Result Way FindError → Phrase
found_fields (Ok way.Greedy) = Row csv_planned_row 0 0 0 0
found_fields (Ok way.Renumbered) = Row csv_anew_row 0 0 0 0
found_fields (Ok (way.Searched n)) = Row csv_searched_row n 0 0 0
found_fields (Err (find.Full x)) = Row csv_full_row 0 0 0 0
found_fields (Err find.FullInClass) = Row csv_full_row 0 0 0 0
found_fields (Err (find.FullSearched n)) = Row csv_exhausted_row n 0 0 0
found_fields (Err (find.NotKnown n)) = Row csv_unknown_row n 0 0 0
found_fields (Err find.TableShort) = Row csv_not_found_row 0 0 0 0
found_fields (Err (find.Record f)) = Row csv_not_found_row 0 0 0 0

-- a cell of a set, by its index, with a blank before all but the lowest
unfoldable pub cell_field : ℕ → ℕ → Phrase
cell_field x j = pick (bit_at x j) (Row (pick (ltb (lowest_of x) j) csv_later_row csv_lowest_row) (j + 1) 0 0 0) Silent

-- those of the first so many cells
unfoldable pub cells_field : ℕ → ℕ → List ℕ
cells_field x zero = []
cells_field x (suc j) = cells_field x j ++ phrase csv_lines (cell_field x j)

abbrev pub set_field : Result Way FindError → List ℕ
set_field (Ok w) = []
set_field (Err (find.Full x)) = cells_field x 32
set_field (Err find.FullInClass) = []
set_field (Err (find.FullSearched n)) = []
set_field (Err (find.NotKnown n)) = []
set_field (Err find.TableShort) = []
set_field (Err (find.Record f)) = []

abbrev pub takes_fields : Extent → ℕ → Phrase
takes_fields takes room = Row csv_takes_row takes.needs takes.enough room 0

abbrev pub site_fields : Site → Form → Result Way FindError → Extent → ℕ → List ℕ
site_fields s form found takes room =
    phrase csv_lines (form_phrase csv_chained_row s form)
    ++ (phrase csv_lines (found_fields found) ++ (set_field found ++ phrase csv_lines (takes_fields takes room)))

-- ---- the plan

-- the verdict's number is 0 for a valid plan, and then mend makes 0 changes
abbrev pub changes_fields : Result Unit CheckError → Result ℕ MendError → Bool → Phrase
changes_fields verdict (Ok number) unseen = Row csv_checked_row (check_given verdict).number number (bit unseen) 0
changes_fields verdict (Err e) unseen = Row csv_not_mended_row (check_given verdict).number 0 (bit unseen) 0

abbrev pub plan_fields : Option PlanTold → Phrase
plan_fields None = Row csv_no_plan_row 0 0 0 0
plan_fields (Some plan.Unread) = Row csv_plan_unread_row 0 0 0 0
plan_fields (Some (plan.Refused answer)) = Row csv_plan_refused_row (read_given answer).number 0 0 0
plan_fields (Some plan.OtherSize) = Row csv_size_row 0 0 0 0
plan_fields (Some (plan.Checked verdict mended unseen)) = changes_fields verdict mended unseen

abbrev pub plan_field : Option PlanTold → List ℕ
plan_field p = phrase csv_lines (plan_fields p)
