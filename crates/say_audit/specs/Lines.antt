-- The parts of a line of an audit, one to a row. @1 to @4 are the values of a row, @a to @d the s of a plural.
use Rattle.std.specs.Prelude.{ℕ, List, [], ◌∷◌}
use Prim.Native.String.{String}

unfoldable pub audit_lines : List String
audit_lines =
    ": @1 cell@a, @2 slot@b, @3 channel@c, rule @4, chained; "
    ∷ ": @1 cell@a, @2 slot@b, @3 channel@c, rule @4, nested; "
    ∷ ": @1 cell@a, @2 slot@b, @3 channel@c, rule @4, renumbered; "
    ∷ ": @1 cell@a, @2 slot@b, @3 channel@c, rule @4, neither; "
    ∷ "; takes @1 of @2"
    ∷ "; takes @1 to @2 of @3"
    ∷ "; plan "
    ∷ "; mended with @1 change@a"
    ∷ "; mending leaves no room for cell @1"
    ∷ "; not mended"
    ∷ "\n"
    ∷ "; valid if only two-way ranges clashed\n"
    ∷ "; plan refused: it is for @1 cell@a, @2 slot@b and @3 channel@c\n"
    ∷ ": "
    ∷ ": refused: this file can't be read\n"
    ∷ "; plan refused: this file can't be read\n"
    ∷ []

-- ---- the rows by name

-- the forms, in their order
abbrev pub chained_form : ℕ
chained_form = 0

abbrev pub nested_form : ℕ
nested_form = 1

abbrev pub renumbered_form : ℕ
renumbered_form = 2

abbrev pub neither_form : ℕ
neither_form = 3

abbrev pub takes_of_row : ℕ
takes_of_row = 4

abbrev pub takes_to_row : ℕ
takes_to_row = 5

abbrev pub plan_row : ℕ
plan_row = 6

abbrev pub mended_with_row : ℕ
mended_with_row = 7

abbrev pub mend_no_room_row : ℕ
mend_no_room_row = 8

-- never said of a site and a plan that were read: both are sound, and the plan is of the site's size
abbrev pub not_mended_row : ℕ
not_mended_row = 9

abbrev pub audit_end_row : ℕ
audit_end_row = 10

abbrev pub two_way_row : ℕ
two_way_row = 11

abbrev pub other_size_row : ℕ
other_size_row = 12

abbrev pub colon_row : ℕ
colon_row = 13

abbrev pub unread_row : ℕ
unread_row = 14

abbrev pub unread_plan_row : ℕ
unread_plan_row = 15
