-- The sheet of an audit: "first line file,refused,cells,slots,channels,rule,class,found,tries,set,needs,enough,open,plan,changes,oneway; lines end in CR LF".
-- The fields of a line after its name, in parts, one part to a row. @1 to @4 are the values of a row.
use Rattle.std.specs.Prelude.{ℕ, List, [], ◌∷◌}
use Prim.Native.String.{String}

unfoldable pub csv_first : List String
csv_first = "file,refused,cells,slots,channels,rule,class,found,tries,set,needs,enough,open,plan,changes,oneway\r\n" ∷ []

unfoldable pub csv_lines : List String
csv_lines =
    ",@1,,,,,,,,,,,,,,\r\n"
    ∷ ",unread,,,,,,,,,,,,,,\r\n"
    ∷ ",,@1,@2,@3,@4,chained,"
    ∷ ",,@1,@2,@3,@4,nested,"
    ∷ ",,@1,@2,@3,@4,renumbered,"
    ∷ ",,@1,@2,@3,@4,neither,"
    ∷ "planned,,"
    ∷ "renumbered,,"
    ∷ "searched,@1,"
    ∷ "full,,"
    ∷ "full,@1,"
    ∷ "not known,@1,"
    ∷ ",,"
    ∷ "@1"
    ∷ " @1"
    ∷ ",@1,@2,@3"
    ∷ ",,,\r\n"
    ∷ ",unread,,\r\n"
    ∷ ",size,,\r\n"
    ∷ ",@1,,\r\n"
    ∷ ",@1,@2,@3\r\n"
    ∷ ",@1,,@3\r\n"
    ∷ []

-- ---- the rows by name

abbrev pub csv_refused_row : ℕ
csv_refused_row = 0

abbrev pub csv_unread_row : ℕ
csv_unread_row = 1

-- the first of the forms, in their order
abbrev pub csv_chained_row : ℕ
csv_chained_row = 2

abbrev pub csv_planned_row : ℕ
csv_planned_row = 6

abbrev pub csv_anew_row : ℕ
csv_anew_row = 7

abbrev pub csv_searched_row : ℕ
csv_searched_row = 8

abbrev pub csv_full_row : ℕ
csv_full_row = 9

abbrev pub csv_exhausted_row : ℕ
csv_exhausted_row = 10

abbrev pub csv_unknown_row : ℕ
csv_unknown_row = 11

-- never said of a site that was read: it is sound, and the table is long enough
abbrev pub csv_not_found_row : ℕ
csv_not_found_row = 12

abbrev pub csv_lowest_row : ℕ
csv_lowest_row = 13

abbrev pub csv_later_row : ℕ
csv_later_row = 14

abbrev pub csv_takes_row : ℕ
csv_takes_row = 15

abbrev pub csv_no_plan_row : ℕ
csv_no_plan_row = 16

abbrev pub csv_plan_unread_row : ℕ
csv_plan_unread_row = 17

abbrev pub csv_size_row : ℕ
csv_size_row = 18

abbrev pub csv_plan_refused_row : ℕ
csv_plan_refused_row = 19

abbrev pub csv_checked_row : ℕ
csv_checked_row = 20

abbrev pub csv_not_mended_row : ℕ
csv_not_mended_row = 21
