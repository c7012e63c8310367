-- The sentences of the answers that the desk asks for, one to a row. @1 to @4 are the values of a row, @a to @d the s of a plural.
use Rattle.std.specs.Prelude.{ℕ, List, [], ◌∷◌}
use Prim.Native.String.{String}

unfoldable pub verdict_lines : List String
verdict_lines =
    "valid\n"
    ∷ "refused 6: cells @1 and @2 clash (@1 reaches @2), and both send in slot @3, channel @4\n"
    ∷ "refused 6: cells @1 and @2 clash (@2 reaches @1), and both send in slot @3, channel @4\n"
    ∷ "refused 6: cells @1 and @2 clash (each reaches the other), and both send in slot @3, channel @4\n"
    ∷ "refused 7: cell @1 sends @2 time@b in a superframe, and its load is @3\n"
    ∷ "planned: @1 cell@a, @2 slot@b, @3 channel@c\n"
    ∷ "refused 5, cell @1: no room for @2 of its fragments; duggfrask why says what that means\n"
    ∷ "refused 5, cell @1: keeping these reservations leaves no room for @2 of its fragments; a fresh plan may do\n"
    ∷ "valid as it is: nothing to change\n"
    ∷ "mended with @1 change@a\n"
    ∷ "share @1 fragment@a in a superframe\nqueue at most @2 fragment@b\ndelay at most @3 slot@c\n"
    ∷ "refused 1: the slots are not 1 to 128\n"
    ∷ "refused 15: the burst is not 1 to 65,535\n"
    ∷ "refused 15: the period is not 1 to 65,535\n"
    ∷ "refused 15: the repeats are not 1 to 4\n"
    ∷ "refused: the plan is for @1 cell@a, @2 slot@b and @3 channel@c, and the site is of another size\n"
    ∷ "refused 22: cell @1 sends in slot @2, channel @3, which is blocked\n"
    ∷ "--blocked: at character @1 stands no slot.channel of this site\n"
    ∷ "refused 6: cells @1 and @2 clash (both reach a third cell), and both send in slot @3, channel @4\n"
    ∷ "repeats @1, since none were given\n"
    ∷ []

-- ---- the rows by name

abbrev pub valid_row : ℕ
valid_row = 0

-- of two cells that clash: the first reaches the second, the second the first, or each the other
abbrev pub clash_forth_row : ℕ
clash_forth_row = 1

abbrev pub clash_back_row : ℕ
clash_back_row = 2

abbrev pub clash_both_row : ℕ
clash_both_row = 3

abbrev pub count_row : ℕ
count_row = 4

abbrev pub planned_row : ℕ
planned_row = 5

abbrev pub no_room_row : ℕ
no_room_row = 6

-- the mender's: the planner may still plan the site, or may not (computed in proofs/Example.antt)
abbrev pub kept_no_room_row : ℕ
kept_no_room_row = 7

abbrev pub unchanged_row : ℕ
unchanged_row = 8

abbrev pub mended_row : ℕ
mended_row = 9

abbrev pub share_row : ℕ
share_row = 10

abbrev pub bad_slots_row : ℕ
bad_slots_row = 11

abbrev pub bad_burst_row : ℕ
bad_burst_row = 12

abbrev pub bad_period_row : ℕ
bad_period_row = 13

abbrev pub bad_repeats_row : ℕ
bad_repeats_row = 14

abbrev pub other_plan_row : ℕ
other_plan_row = 15

abbrev pub blocked_row : ℕ
blocked_row = 16

abbrev pub bad_list_row : ℕ
bad_list_row = 17

-- of two cells that clash by rule 2 alone
abbrev pub clash_third_row : ℕ
clash_third_row = 18

abbrev pub repeats_row : ℕ
repeats_row = 19
