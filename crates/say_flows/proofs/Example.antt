-- The text of an admission, computed letter by letter: the call is asked, and its answer said. A list of loads or rows that ends early goes on with zeros.
-- Assumes nothing.
use Prim.Native.Nat.{ℕ, zero, suc}
use Prim.Native.String.{◌++◌}
use mathlib.Core.List.{List, [], ◌∷◌}
use mathlib.Core.Path.{◌≡◌, refl}
use Rattle.laws.specs.Search.{first_of}
use Rattle.laws.specs.Sum.{sum}
use Rattle.theory.specs.Verdict.{overloaded, lowest_over, load_verdict, second, splits, split_of, first_split, class_verdict}
use Rattle.text.specs.Decimal.{digits_of, decimal}
use Rattle.speech.specs.Speech.{bytes, spoken}
use Rattle.site.specs.Record.{site_of, up_to, size_ok, rule_ok, row_bad, extra_load, bad_row, extra_blocked, fault_of}
use Rattle.site.specs.Reach.{reaches, clash_in}
use Rattle.site.specs.declared.Site.{Site}
use Rattle.shares.specs.Share.{rounded_up, share_of}
use Rattle.admitting.specs.Best.{allowed_beside, best_of, best_beside}
use Rattle.flowlist.specs.declared.Flow.{Flow}
use Rattle.admission.specs.Admit.{bad_in, refused_in, first_bad_in, answer_from, answer_in}
use Rattle.admission.specs.Beside.{beside_in}
use Rattle.verdicts.specs.Lines.{verdict_lines}
use Rattle.say_refusals.specs.Lines.{refusal_meanings, refusal_heads}
use Rattle.say_refusals.specs.Said.{meaning, refused_line}
use Rattle.say_flows.specs.Lines.{admit_lines, nineteen_lines}
use Rattle.say_flows.specs.Said.{list_said, nineteen_said, admit_said, beside_said}

-- what is said of an admission
abbrev said : Site → (ℕ → Flow) → ℕ → List ℕ
said s f n = admit_said s f n (answer_in s f n)

abbrev flow : (cell burst period repeats value : ℕ) → Flow
flow cell burst period repeats value = record { cell = cell; burst = burst; period = period; repeats = repeats; value = value }

-- two flows: the first, and then the same again and again
abbrev pair : Flow → Flow → ℕ → Flow
pair f g zero = f
pair f g (suc k) = g

-- two cells that clash, 16 slots; both are loaded to the full, which does not count here
abbrev near : Site
near = site_of 2 16 1 (16 ∷ 16 ∷ []) (2 ∷ []) [] 1

-- P4's cells without a load, and so spare: 1~3, 2~4, 3~4
abbrev far : Site
far = site_of 4 16 1 [] (4 ∷ 8 ∷ 8 ∷ []) [] 1

-- a side drift, of which all cells are spare: 1~2, 2~3, 1~4
abbrev drift : Site
drift = site_of 4 16 1 [] (10 ∷ 4 ∷ []) [] 1

-- of two flows that do not go together the one that is worth more is taken; in a drift and in the tunnel past it they do
taken :
    said near (pair (flow 1 3 8 1 10) (flow 2 4 8 2 30)) 2 ∷ said near (pair (flow 1 3 8 1 10) (flow 2 4 8 1 30)) 2
    ∷ said drift (pair (flow 3 3 8 1 10) (flow 4 4 8 2 30)) 2 ∷ []
    ≡ bytes "the loads of the site are set aside\nflow 1: cell 1, share 6, value 10, not taken\nflow 2: cell 2, share 16, value 30, taken\nworth 30\n"
    ∷ bytes "the loads of the site are set aside\nflow 1: cell 1, share 6, value 10, taken\nflow 2: cell 2, share 8, value 30, taken\nworth 40\n"
    ∷ bytes "the loads of the site are set aside\nflow 1: cell 3, share 6, value 10, taken\nflow 2: cell 4, share 16, value 30, taken\nworth 40\n" ∷ []
unfolding first_of sum overloaded lowest_over load_verdict second splits split_of first_split class_verdict up_to size_ok rule_ok row_bad extra_load bad_row
    extra_blocked
    fault_of
    reaches clash_in rounded_up share_of allowed_beside best_of best_beside bad_in refused_in first_bad_in answer_from admit_lines list_said spoken decimal
    digits_of
taken = refl

-- each refusal: 2, 15 and 16 with the flow's number, 18 alone, 19 with the three cells, and a record's own
refused :
    said near (pair (flow 1 1 1 1 1) (flow 5 1 1 1 1)) 2 ∷ said near (pair (flow 1 1 1 5 1) (flow 1 1 1 1 1)) 2
    ∷ said near (pair (flow 1 1 1 1 1) (flow 1 65535 1 4 1)) 3 ∷ said near (pair (flow 1 1 1 1 1) (flow 1 1 1 1 1)) 17
    ∷ said far (pair (flow 1 1 1 1 1) (flow 1 1 1 1 1)) 1 ∷ said (site_of 2 16 1 [] (0 ∷ 2 ∷ []) [] 1) (pair (flow 1 1 1 1 1) (flow 1 1 1 1 1)) 1
    ∷ []
    ≡ bytes "refused 2, flow 2: a load or a flow is for a cell that the site does not have\n"
    ∷ bytes "refused 15, flow 1: the burst or the period of a flow is not 1 to 65,535, or its repeats are not 1 to 4\n"
    ∷ bytes "refused 16, flow 2: the flow needs a share above 65,535 fragments in a superframe, its repeats counted\n"
    ∷ bytes "refused 18: more than 16 flows ask to be admitted\n"
    ∷ bytes (
    "refused 19: the site is not nested when all its cells count, the spare ones too: "
    ++ "cells 2 and 3 clash with cell 4, and not with one another\n")
    ∷ bytes "refused 3, cell 2: the reach has a cell that reaches itself, or a cell that the site does not have\n"
    ∷ []
unfolding first_of sum second splits split_of first_split class_verdict up_to size_ok rule_ok row_bad extra_load bad_row extra_blocked fault_of reaches clash_in
    rounded_up
    share_of
    bad_in refused_in first_bad_in answer_from nineteen_lines nineteen_said refusal_meanings refusal_heads meaning refused_line spoken decimal digits_of
refused = refl

-- on top of the loads: two cells that clash, 16 slots, loads 4 and 4. Of two flows of shares 6 and 8 cell 2 has room for the one that is worth more;
-- and with loads 4 and 13 the loads alone are over, by 1 in cell 2
abbrev besides : Site → (ℕ → Flow) → ℕ → List ℕ
besides s f n = beside_said s f n (beside_in s f n)

beside :
    besides (site_of 2 16 1 (4 ∷ 4 ∷ []) (2 ∷ []) [] 1) (pair (flow 1 3 8 1 10) (flow 2 4 8 1 30)) 2
    ∷ besides (site_of 2 16 1 (4 ∷ 13 ∷ []) (2 ∷ []) [] 1) (pair (flow 1 3 8 1 10) (flow 2 4 8 1 30)) 2 ∷ []
    ≡ bytes "on top of the loads of the site\nflow 1: cell 1, share 6, value 10, not taken\nflow 2: cell 2, share 8, value 30, taken\nworth 30\n"
    ∷ bytes "refused 5, cell 2: no room for 1 of its fragments; duggfrask why says what that means\n" ∷ []
unfolding first_of sum overloaded lowest_over load_verdict second splits split_of first_split class_verdict up_to size_ok rule_ok row_bad extra_load bad_row
    extra_blocked
    fault_of
    reaches clash_in rounded_up share_of allowed_beside best_of best_beside bad_in refused_in first_bad_in answer_from beside_in admit_lines list_said spoken
    decimal digits_of
    verdict_lines
beside = refl
