-- What is said after the name of a file, one to a row: nothing; what the file is; and what was asked for.
use Rattle.std.specs.Prelude.{ℕ, List, [], ◌∷◌}
use Prim.Native.String.{String}

unfoldable pub input_lines : List String
input_lines =
    ": "
    ∷ " is a site file; "
    ∷ " is a plan file; "
    ∷ " is a range sheet; "
    ∷ " is a sheet of flows; "
    ∷ "a site file is asked for: "
    ∷ "a plan file is asked for: "
    ∷ "a range sheet is asked for: "
    ∷ "a sheet of flows is asked for: "
    ∷ []

-- ---- the rows by name

abbrev pub plain_row : ℕ
plain_row = 0

abbrev pub is_site_file_row : ℕ
is_site_file_row = 1

abbrev pub is_plan_file_row : ℕ
is_plan_file_row = 2

abbrev pub is_range_sheet_row : ℕ
is_range_sheet_row = 3

abbrev pub is_flow_sheet_row : ℕ
is_flow_sheet_row = 4

abbrev pub ask_site_file_row : ℕ
ask_site_file_row = 5

abbrev pub ask_plan_file_row : ℕ
ask_plan_file_row = 6

abbrev pub ask_range_sheet_row : ℕ
ask_range_sheet_row = 7

abbrev pub ask_flow_sheet_row : ℕ
ask_flow_sheet_row = 8
