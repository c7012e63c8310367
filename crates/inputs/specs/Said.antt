-- What is said after the name of a file that is refused: `customer.plan is a plan file; a site file is asked for: `, or nothing but `: `.
use Rattle.std.specs.Prelude.{ℕ, List, ◌++◌, eqb}
use Rattle.laws.specs.Choice.{pick}
use Rattle.phrases.specs.Phrases.{phrase}
use Rattle.phrases.specs.declared.Phrase.{Phrase}
use Rattle.phrases.specs.declared.Phrase.TheVariants.{Silent, Row}
use Rattle.inputs.specs.Lines.{input_lines, plain_row, is_site_file_row, is_plan_file_row, is_range_sheet_row, is_flow_sheet_row}
use Rattle.inputs.specs.Lines.{ask_site_file_row, ask_plan_file_row, ask_range_sheet_row, ask_flow_sheet_row}
use Rattle.inputs.specs.declared.Input.{Input as File}
use Rattle.inputs.specs.declared.Input.TheVariants.{SiteFile, PlanFile, RangeSheet, FlowSheet, Other}

-- the files in a list, from 1; 0 is any other
abbrev pub input_number : File → ℕ
input_number SiteFile = 1
input_number PlanFile = 2
input_number RangeSheet = 3
input_number FlowSheet = 4
input_number Other = 0

-- what the file is
abbrev pub found_phrase : File → Phrase
found_phrase SiteFile = Row is_site_file_row 0 0 0 0
found_phrase PlanFile = Row is_plan_file_row 0 0 0 0
found_phrase RangeSheet = Row is_range_sheet_row 0 0 0 0
found_phrase FlowSheet = Row is_flow_sheet_row 0 0 0 0
found_phrase Other = Silent

-- what was asked for
abbrev pub asked_phrase : File → Phrase
asked_phrase SiteFile = Row ask_site_file_row 0 0 0 0
asked_phrase PlanFile = Row ask_plan_file_row 0 0 0 0
asked_phrase RangeSheet = Row ask_range_sheet_row 0 0 0 0
asked_phrase FlowSheet = Row ask_flow_sheet_row 0 0 0 0
asked_phrase Other = Silent

abbrev pub plain_said : List ℕ
plain_said = phrase input_lines (Row plain_row 0 0 0 0)

abbrev pub other_said : (found asked : File) → List ℕ
other_said found asked = phrase input_lines (found_phrase found) ++ phrase input_lines (asked_phrase asked)

-- where the bytes show no file, or the one that is asked for, there is nothing to say
unfoldable pub file_said : (found asked : File) → List ℕ
file_said found asked =
    pick (eqb (input_number found) 0) plain_said (
    pick (eqb (input_number found) (input_number asked)) plain_said (
    other_said found asked))
