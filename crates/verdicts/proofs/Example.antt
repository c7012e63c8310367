-- The answers to desk examples in English, letter by letter: the call is asked, and its answer said.
-- A list of loads or rows that ends early goes on with zeros.
-- Assumes nothing.
use mathlib.Core.Path.{◌≡◌, refl}
use mathlib.Core.List.{List, [], ◌∷◌}
use Prim.Native.Nat.{ℕ}
use lib.ListN.{replicate}
use Rattle.std.specs.Prelude.{Ok, Err}
use Rattle.laws.specs.Search.{first_of}
use Rattle.laws.specs.Sum.{sum, any}
use Rattle.laws.specs.Part.{part}
use Rattle.theory.specs.Greedy.{forbid, marked, fill, unmet, run}
use Rattle.theory.specs.Verdict.{holder_at, barred_at, lowest_barred, second_at, clashes_at, first_at, lowest_clash, wrong_in, lowest_wrong, open_verdict}
use Rattle.theory.specs.Verdict.{table_verdict}
use Rattle.site.specs.Record.{site_of, up_to, size_ok, rule_ok, row_bad, extra_load, bad_row, extra_blocked, fault_of}
use Rattle.site.specs.Reach.{reaches, reached_by_both, clash_in}
use Rattle.site.specs.declared.Site.{Site}
use Rattle.site.specs.declared.Fault.TheVariants as fault
use Rattle.planner.specs.Plan.{plan_answer}
use Rattle.checker.specs.Check.{verdict_of, check_answer}
use Rattle.mending.specs.Mend.{stand}
use Rattle.mender.specs.Mend.{mend_answer}
use Rattle.shares.specs.Share.{rounded_up, share_of}
use Rattle.sheet.specs.declared.SheetError.TheVariants as sheet
use Rattle.text.specs.Decimal.{digits_of, decimal}
use Rattle.speech.specs.Speech.{bytes, spoken}
use Rattle.say_refusals.specs.Lines.{refusal_meanings, refusal_heads}
use Rattle.say_refusals.specs.Said.{meaning, refused_line}
use Rattle.verdicts.specs.Lines.{verdict_lines}
use Rattle.verdicts.specs.Said.{load_named, reach_named, clash_sentence, blocked_sentence, changes_sentence, bad_flow_row}
use Rattle.verdicts.specs.Said.{check_said, plan_said, mend_said, share_said, fault_said, read_said, sheet_said, other_plan_line, bad_list_line}
use Rattle.verdicts.specs.declared.File.TheVariants.{SiteFile, PlanFile}

-- P1 and P2: cell 2 reaches cells 1 and 3
abbrev P1 : Site
P1 = site_of 3 3 2 (5 ∷ 1 ∷ 4 ∷ []) (0 ∷ 5 ∷ []) [] 1

abbrev P2 : Site
P2 = site_of 3 3 2 (5 ∷ 2 ∷ 4 ∷ []) (0 ∷ 5 ∷ []) [] 1

-- P1 with position 5 blocked, which is slot 3, channel 2; and with position 6 blocked, which is past its last
abbrev P1blocked : Site
P1blocked = site_of 3 3 2 (5 ∷ 1 ∷ 4 ∷ []) (0 ∷ 5 ∷ []) (32 ∷ []) 1

abbrev P1past : Site
P1past = site_of 3 3 2 (5 ∷ 1 ∷ 4 ∷ []) (0 ∷ 5 ∷ []) (64 ∷ []) 1

-- P3: cells 1 and 2 reach cell 3
abbrev P3 : Site
P3 = site_of 3 2 1 (1 ∷ 1 ∷ 1 ∷ []) (4 ∷ 4 ∷ []) [] 1

-- two cells that reach each other
abbrev two_way : Site
two_way = site_of 2 1 2 (1 ∷ 1 ∷ []) (2 ∷ 1 ∷ []) [] 1

-- P1's own table, P8's (cell 3 holds one too many), P9's (cells 2 and 3 meet at the last position), and one where cells 1 and 2 meet
abbrev T1 : List ℕ
T1 = 1 ∷ 1 ∷ 1 ∷ 1 ∷ 1 ∷ 0 ∷ 0 ∷ 0 ∷ 0 ∷ 0 ∷ 0 ∷ 1 ∷ 1 ∷ 1 ∷ 1 ∷ 1 ∷ 0 ∷ 0 ∷ []

abbrev T8 : List ℕ
T8 = 1 ∷ 1 ∷ 1 ∷ 1 ∷ 1 ∷ 0 ∷ 0 ∷ 0 ∷ 0 ∷ 0 ∷ 0 ∷ 1 ∷ 1 ∷ 1 ∷ 1 ∷ 1 ∷ 1 ∷ 0 ∷ []

abbrev T9 : List ℕ
T9 = 1 ∷ 1 ∷ 1 ∷ 1 ∷ 1 ∷ 0 ∷ 0 ∷ 0 ∷ 0 ∷ 0 ∷ 0 ∷ 1 ∷ 0 ∷ 0 ∷ 1 ∷ 1 ∷ 1 ∷ 1 ∷ []

abbrev T12 : List ℕ
T12 = 1 ∷ 1 ∷ 1 ∷ 1 ∷ 1 ∷ 0 ∷ 0 ∷ 0 ∷ 1 ∷ 0 ∷ 0 ∷ 0 ∷ 1 ∷ 1 ∷ 0 ∷ 1 ∷ 1 ∷ 0 ∷ []

-- ---- check: valid; who reaches whom, three ways; a count; a table that is too short; a record's fault; a blocked position, before a clash there; and one
-- that the site does not have
checked :
    check_said P1 (check_answer P1 T1) ∷ check_said two_way (check_answer two_way (0 ∷ 1 ∷ 0 ∷ 1 ∷ []))
    ∷ check_said P1 (check_answer P1 T9) ∷ check_said P1 (check_answer P1 T12)
    ∷ check_said P1 (check_answer P1 T8) ∷ check_said P1 (check_answer P1 (1 ∷ []))
    ∷ check_said (site_of 0 3 2 [] [] [] 1) (check_answer (site_of 0 3 2 [] [] [] 1) T1)
    ∷ check_said P1blocked (check_answer P1blocked T9) ∷ check_said P1past (check_answer P1past T9) ∷ []
    ≡ bytes "valid\n"
    ∷ bytes "refused 6: cells 1 and 2 clash (each reaches the other), and both send in slot 1, channel 2\n"
    ∷ bytes "refused 6: cells 2 and 3 clash (2 reaches 3), and both send in slot 3, channel 2\n"
    ∷ bytes "refused 6: cells 1 and 2 clash (2 reaches 1), and both send in slot 2, channel 1\n"
    ∷ bytes "refused 7: cell 3 sends 5 times in a superframe, and its load is 4\n"
    ∷ bytes "refused 4: the table is too short\n"
    ∷ bytes "refused 1: the size is out of range: a site has 1 to 32 cells, 1 to 128 slots and 1 to 16 channels\n"
    ∷ bytes "refused 22: cell 2 sends in slot 3, channel 2, which is blocked\n"
    ∷ bytes "refused 20, position 6: a blocked position is one that the site does not have: its slots and channels end before it\n" ∷ []
unfolding first_of sum any holder_at barred_at lowest_barred second_at clashes_at first_at lowest_clash wrong_in lowest_wrong open_verdict table_verdict
    up_to size_ok rule_ok row_bad extra_load bad_row extra_blocked fault_of reaches clash_in verdict_of check_answer load_named reach_named clash_sentence
    blocked_sentence
    verdict_lines refusal_meanings refusal_heads meaning refused_line spoken decimal digits_of
checked = refl

-- ---- and under a rule: cells 1 and 2 reach cell 3, and both send first. Valid under rule 1; a clash by the third cell under rule 2; and no rule 3
abbrev ruled : ℕ → Site
ruled = site_of 3 2 1 (1 ∷ 1 ∷ 1 ∷ []) (4 ∷ 4 ∷ []) []

abbrev check_ruled : ℕ → List ℕ
check_ruled rule = check_said (ruled rule) (check_answer (ruled rule) (1 ∷ 0 ∷ 1 ∷ 0 ∷ 0 ∷ 1 ∷ []))

checked-ruled :
    check_ruled 1 ∷ check_ruled 2 ∷ check_ruled 3 ∷ []
    ≡ bytes "valid\n"
    ∷ bytes "refused 6: cells 1 and 2 clash (both reach a third cell), and both send in slot 1, channel 1\n"
    ∷ bytes "refused 24: the rule is not 1 or 2, or not 2 where a site file says it\n" ∷ []
unfolding first_of sum any holder_at barred_at lowest_barred second_at clashes_at first_at lowest_clash wrong_in lowest_wrong open_verdict table_verdict
    up_to size_ok rule_ok row_bad extra_load bad_row extra_blocked fault_of reaches reached_by_both clash_in verdict_of check_answer load_named reach_named
    clash_sentence
    verdict_lines refusal_meanings refusal_heads meaning refused_line spoken decimal digits_of
checked-ruled = refl

-- ---- plan: P1, and P2, which is full
planned :
    plan_said P1 (plan_answer P1 (replicate 18 0)) ∷ plan_said P2 (plan_answer P2 (replicate 18 0)) ∷ []
    ≡ bytes "planned: 3 cells, 3 slots, 2 channels\n"
    ∷ bytes "refused 5, cell 2: no room for 1 of its fragments; duggfrask why says what that means\n" ∷ []
unfolding first_of sum any part forbid marked fill unmet run up_to size_ok rule_ok row_bad extra_load bad_row extra_blocked fault_of reaches clash_in
    plan_answer
    verdict_lines
    spoken decimal digits_of
planned = refl

-- ---- mend: a valid table; one change; what is kept leaves no room, on P3, which the planner plans, and on P2, which it does not; a list that is too short
mended :
    mend_said (mend_answer P1 T1 []) ∷ mend_said (mend_answer P1 T8 (replicate 4 0)) ∷ mend_said (mend_answer P1 T9 (replicate 8 0))
    ∷ mend_said (mend_answer P3 (1 ∷ 0 ∷ 0 ∷ 1 ∷ 0 ∷ 0 ∷ []) (replicate 24 0)) ∷ plan_said P3 (plan_answer P3 (replicate 6 0))
    ∷ mend_said (mend_answer P2 T8 (replicate 72 0)) ∷ mend_said (mend_answer P1 T8 []) ∷ []
    ≡ bytes "valid as it is: nothing to change\n"
    ∷ bytes "mended with 1 change\n"
    ∷ bytes "mended with 2 changes\n"
    ∷ bytes "refused 5, cell 3: keeping these reservations leaves no room for 1 of its fragments; a fresh plan may do\n"
    ∷ bytes "planned: 3 cells, 2 slots, 1 channel\n"
    ∷ bytes "refused 5, cell 2: keeping these reservations leaves no room for 1 of its fragments; a fresh plan may do\n"
    ∷ bytes "refused 13: the lent output is too short\n" ∷ []
unfolding first_of sum any part forbid marked fill unmet run up_to size_ok rule_ok row_bad extra_load bad_row extra_blocked fault_of reaches clash_in
    stand mend_answer plan_answer changes_sentence verdict_lines refusal_meanings refusal_heads meaning refused_line spoken decimal digits_of
mended = refl

-- ---- share: once and twice; a superframe of 0 slots; of a 15 the first number that is out of range; a share that is too big
shared :
    share_said 3 4 (share_of 3 3 4 1) ∷ share_said 3 4 (share_of 3 3 4 2) ∷ share_said 1 1 (share_of 1 1 1 1)
    ∷ share_said 0 4 (share_of 0 0 4 1) ∷ share_said 0 0 (share_of 3 0 0 5) ∷ share_said 3 0 (share_of 3 3 0 5) ∷ share_said 3 4 (share_of 3 3 4 5)
    ∷ share_said 65535 1 (share_of 2 65535 1 1) ∷ []
    ≡ bytes "share 3 fragments in a superframe\nqueue at most 6 fragments\ndelay at most 6 slots\n"
    ∷ bytes "share 6 fragments in a superframe\nqueue at most 6 fragments\ndelay at most 6 slots\n"
    ∷ bytes "share 1 fragment in a superframe\nqueue at most 2 fragments\ndelay at most 2 slots\n"
    ∷ bytes "refused 1: the slots are not 1 to 128\n"
    ∷ bytes "refused 15: the burst is not 1 to 65,535\n"
    ∷ bytes "refused 15: the period is not 1 to 65,535\n"
    ∷ bytes "refused 15: the repeats are not 1 to 4\n"
    ∷ bytes "refused 16: the flow needs a share above 65,535 fragments in a superframe, its repeats counted\n" ∷ []
unfolding rounded_up up_to share_of bad_flow_row verdict_lines refusal_meanings refusal_heads meaning refused_line spoken decimal digits_of
shared = refl

-- ---- files and sheets: the site file and the plan file are told apart, a line and a cell too; a plan of another size; and a bad list
read-said :
    read_said SiteFile (Err (record { number = 8; place = 20 })) ∷ read_said PlanFile (Err (record { number = 14; place = 10 }))
    ∷ sheet_said (Err (sheet.BadLine 2)) ∷ sheet_said (Err (sheet.Record (fault.Reach 2))) ∷ fault_said (fault.Load 5)
    ∷ read_said SiteFile (Ok tt) ∷ read_said PlanFile (Ok tt) ∷ sheet_said (Ok tt) ∷ other_plan_line 5 8 1 ∷ bad_list_line 5 ∷ []
    ≡ bytes "refused 8, byte 20 of the site file: the file ends too early: inside a record, or before one that has to be there\n"
    ∷ bytes "refused 14, byte 10 of the plan file: a bit past the last position is set\n"
    ∷ bytes "refused 17, line 2: the sheet is malformed: a line is not as the format asks, or is missing, or is one too many\n"
    ∷ bytes "refused 3, cell 2: the reach has a cell that reaches itself, or a cell that the site does not have\n"
    ∷ bytes "refused 2, cell 5: a load or a flow is for a cell that the site does not have\n"
    ∷ [] ∷ [] ∷ []
    ∷ bytes "refused: the plan is for 5 cells, 8 slots and 1 channel, and the site is of another size\n"
    ∷ bytes "--blocked: at character 5 stands no slot.channel of this site\n" ∷ []
unfolding verdict_lines refusal_meanings refusal_heads meaning refused_line spoken decimal digits_of
read-said = refl
