-- P1 to P12, and sites with spare cells, with the words of W6, the mended tables of W7, the blocked positions of W8, the side drift of W9, the
-- renumbered sites of W10 and the two rules of W11, in one theorem: the sites' faults first, and then both sides are computed. Assumes nothing.
use mathlib.Core.Path.{◌≡◌, refl, sym, ap₂, ◌∙◌}
use mathlib.Core.List.{List, ◌++◌, map-append}
use Rattle.laws.specs.Search.{first_of}
use Rattle.laws.specs.Sum.{sum, any}
use Rattle.laws.specs.Most.{most}
use Rattle.laws.specs.Part.{part, put, list_of}
use Rattle.theory.specs.Greedy.{forbid, marked, fill, unmet, run}
use Rattle.theory.specs.Verdict.{overloaded, lowest_over, load_verdict, most_demand, gap, breaks, break_of, first_break, chain_verdict}
use Rattle.theory.specs.Verdict.{second, splits, split_of, first_split, class_verdict}
use Rattle.theory.specs.Verdict.{holder_at, barred_at, lowest_barred, second_at, clashes_at, first_at, lowest_clash, wrong_in, lowest_wrong, open_verdict}
use Rattle.theory.specs.Verdict.{table_verdict}
use Rattle.site.specs.Record.{up_to, size_ok, rule_ok, row_bad, extra_load, bad_row, fault_of}
use Rattle.site.specs.declared.Fault.TheVariants.{Size, Rule, Load, Reach, Blocked}
use Rattle.std.specs.Prelude.{Ok, Err}
use Rattle.site.specs.Reach.{reaches, reached_by_both, clash_in}
use Rattle.planner.specs.Plan.{plan_answer, plan_table}
use Rattle.judges.specs.Judges.{load_answer, chain_answer, class_answer, least_answer}
use Rattle.admitting.specs.Best.{best_of}
use Rattle.heaviest.specs.Sets.{mutual_in, heaviest_in, heaviest_of}
use Rattle.checker.specs.Check.{verdict_of, check_answer}
use Rattle.laws.specs.Bits.{word_of}
use Rattle.wordforms.specs.Words.{bytes_of}
use Rattle.wordtable.specs.Plan.{plan_words_answer, plan_words}
use Rattle.wordtable.specs.Check.{check_words_answer}
use Rattle.wordtable.specs.Forms.{form_answer, to_words, to_bytes}
use Rattle.mending.specs.Mend.{stand, overlay}
use Rattle.mending.specs.Changes.{cell_changes, changes}
use Rattle.mender.specs.Mend.{mend_answer, mend_table, mend_list}
use Rattle.renumbering.specs.Numbering.{last, missing, odd, fit, give_numbers, numbering}
use Rattle.renumbering.specs.Carry.{carried}
use Rattle.numberrows.specs.Numbers.{moved_by, moved_rows}
use Rattle.numbering.specs.Renumber.{numbering_of, site_numbers, moved_site, renumber_of}
use Rattle.numbering.specs.Carried.{carry_answer, carry_table}
use Rattle.desktable.specs.Desk.{with_zeros, P1, P1spare, P2, P3, P3spare, P4, P6, P7, alone, spare_first, pair, no_channels}
use Rattle.desktable.specs.Desk.{P1blocked, P1lighter, P1far, alone_blocked, side_drift_site, P4inARow, ring}
use Rattle.desktable.specs.Desk.{edge_site, P3ruled, all_clash, two_apart, spare_reached, ring_ruled, faulty}
use Rattle.desktable.specs.Desk.{DeskLine, desk_rules, desk_least, desk_nested, desk_words, desk_mended, desk_blocked, desk_numbered, desk_heaviest}
use Rattle.desktable.specs.Desk.{desk_edge, desk_ruled, desk_faults, desk_air, desk_table, Answered}
use Rattle.desktable.proofs.Faults.{used_words, used_to, past_in, fault_in, fault-in}

-- what is wrong with each site: nothing, or what its line says
faults : (fault_of P1 ≡ Ok tt)
    × (fault_of P1spare ≡ Ok tt)
    × (fault_of P2 ≡ Ok tt)
    × (fault_of P3 ≡ Ok tt)
    × (fault_of P3spare ≡ Ok tt)
    × (fault_of P4 ≡ Ok tt)
    × (fault_of P6 ≡ Ok tt)
    × (fault_of P7 ≡ Ok tt)
    × (fault_of (alone 0) ≡ Ok tt)
    × (fault_of (alone 1) ≡ Ok tt)
    × (fault_of (alone 2) ≡ Ok tt)
    × (fault_of spare_first ≡ Ok tt)
    × (fault_of pair ≡ Ok tt)
    × (fault_of no_channels ≡ Err Size)
    × (fault_of (P1blocked 1) ≡ Ok tt)
    × (fault_of (P1lighter 1) ≡ Ok tt)
    × (fault_of (P1blocked 10) ≡ Ok tt)
    × (fault_of (P1blocked 63) ≡ Ok tt)
    × (fault_of alone_blocked ≡ Ok tt)
    × (fault_of (P1blocked 193) ≡ Err (Blocked 6))
    × (fault_of P1far ≡ Err (Blocked 65))
    × (fault_of side_drift_site ≡ Ok tt)
    × (fault_of P4inARow ≡ Ok tt)
    × (fault_of ring ≡ Ok tt)
unfolding with_zeros first_of up_to size_ok rule_ok row_bad extra_load bad_row used_words used_to past_in fault_in
faults = (
  fault-in P1,
  fault-in P1spare,
  fault-in P2,
  fault-in P3,
  fault-in P3spare,
  fault-in P4,
  fault-in P6,
  fault-in P7,
  fault-in (alone 0),
  fault-in (alone 1),
  fault-in (alone 2),
  fault-in spare_first,
  fault-in pair,
  fault-in no_channels,
  fault-in (P1blocked 1),
  fault-in (P1lighter 1),
  fault-in (P1blocked 10),
  fault-in (P1blocked 63),
  fault-in alone_blocked,
  fault-in (P1blocked 193),
  fault-in P1far,
  fault-in side_drift_site,
  fault-in P4inARow,
  fault-in ring,
)

-- and with W11's
air-faults : (fault_of (edge_site 1) ≡ Ok tt)
    × (fault_of (edge_site 2) ≡ Ok tt)
    × (fault_of (P3ruled 2) ≡ Ok tt)
    × (fault_of (P3ruled 3) ≡ Ok tt)
    × (fault_of all_clash ≡ Ok tt)
    × (fault_of (ring_ruled 1) ≡ Ok tt)
    × (fault_of (ring_ruled 2) ≡ Ok tt)
    × (fault_of (edge_site 0) ≡ Err Rule)
    × (fault_of (edge_site 3) ≡ Err Rule)
    × (fault_of (faulty 0 0 5 1 2) ≡ Err Size)
    × (fault_of (faulty 1 0 5 1 2) ≡ Err Rule)
    × (fault_of (faulty 1 2 5 1 2) ≡ Err (Load 2))
    × (fault_of (faulty 1 2 0 1 2) ≡ Err (Reach 1))
    × (fault_of (faulty 1 2 0 0 2) ≡ Err (Blocked 1))
    × (fault_of (faulty 1 2 0 0 0) ≡ Ok tt)
    × (fault_of two_apart ≡ Ok tt)
    × (fault_of (spare_reached 1) ≡ Ok tt)
    × (fault_of (spare_reached 2) ≡ Ok tt)
unfolding with_zeros first_of up_to size_ok rule_ok row_bad extra_load bad_row used_words used_to past_in fault_in
air-faults = (
  fault-in (edge_site 1),
  fault-in (edge_site 2),
  fault-in (P3ruled 2),
  fault-in (P3ruled 3),
  fault-in all_clash,
  fault-in (ring_ruled 1),
  fault-in (ring_ruled 2),
  fault-in (edge_site 0),
  fault-in (edge_site 3),
  fault-in (faulty 0 0 5 1 2),
  fault-in (faulty 1 0 5 1 2),
  fault-in (faulty 1 2 5 1 2),
  fault-in (faulty 1 2 0 1 2),
  fault-in (faulty 1 2 0 0 2),
  fault-in (faulty 1 2 0 0 0),
  fault-in two_apart,
  fault-in (spare_reached 1),
  fault-in (spare_reached 2),
)

rules : Answered desk_rules
unfolding with_zeros first_of sum any part list_of forbid marked fill unmet run reaches clash_in overloaded lowest_over load_verdict load_answer gap breaks
    break_of first_break chain_verdict chain_answer holder_at barred_at lowest_barred second_at clashes_at first_at lowest_clash wrong_in lowest_wrong
    open_verdict
    table_verdict verdict_of check_answer plan_answer plan_table
rules = rw (faults.0, faults.1, faults.2, faults.3, faults.4, faults.5, faults.6, faults.7, faults.8, faults.9, faults.10) refl

least : Answered desk_least
unfolding with_zeros first_of sum most reaches clash_in gap breaks break_of first_break chain_verdict chain_answer second splits split_of first_split
    class_verdict
    most_demand least_answer
least = rw (faults.0, faults.1, faults.2, faults.3, faults.6, faults.7, faults.11) refl

nested : Answered desk_nested
unfolding with_zeros first_of sum any part list_of forbid marked fill unmet run most reaches clash_in overloaded lowest_over load_verdict load_answer gap breaks
    break_of first_break chain_verdict chain_answer second splits split_of first_split class_verdict class_answer most_demand least_answer plan_answer
    plan_table
nested = rw (faults.21, faults.0, faults.3, faults.5, faults.4) refl

words : Answered desk_words
unfolding with_zeros first_of sum any part list_of forbid marked fill unmet run reaches clash_in holder_at barred_at lowest_barred second_at clashes_at first_at
    lowest_clash wrong_in lowest_wrong open_verdict table_verdict verdict_of word_of bytes_of plan_words_answer plan_words check_words_answer form_answer
    to_words
    to_bytes
words = rw (faults.0, faults.2) refl

mended : Answered desk_mended
unfolding with_zeros first_of sum any part list_of forbid marked fill unmet run reaches clash_in stand overlay cell_changes changes mend_answer mend_table
    mend_list
mended = rw (faults.0, faults.12, faults.5) refl

blocked : Answered desk_blocked
unfolding with_zeros first_of sum any part list_of forbid marked fill unmet run reaches clash_in overloaded lowest_over load_verdict load_answer gap breaks
    break_of first_break chain_verdict chain_answer second splits split_of first_split class_verdict most most_demand least_answer holder_at barred_at
    lowest_barred
    second_at clashes_at first_at lowest_clash
    wrong_in lowest_wrong open_verdict table_verdict verdict_of check_answer plan_answer plan_table word_of plan_words_answer plan_words check_words_answer
    stand
    overlay cell_changes changes mend_answer mend_table mend_list
blocked = rw (faults.14, faults.15, faults.16, faults.17, faults.18, faults.19, faults.20) refl

renumbered : Answered desk_numbered
unfolding with_zeros first_of sum any part put list_of forbid marked fill unmet run reaches clash_in holder_at barred_at lowest_barred second_at clashes_at
    first_at
    lowest_clash wrong_in lowest_wrong open_verdict table_verdict verdict_of check_answer plan_answer plan_table word_of last missing odd fit give_numbers
    numbering
    carried moved_by moved_rows numbering_of site_numbers moved_site renumber_of carry_answer carry_table
renumbered = rw (faults.0, faults.5, faults.7, faults.13, faults.22, faults.23) refl

edge : Answered desk_edge
unfolding with_zeros first_of sum any part put list_of forbid marked fill unmet run reaches reached_by_both clash_in overloaded lowest_over load_verdict
    load_answer
    gap breaks break_of first_break chain_verdict chain_answer second splits split_of first_split class_verdict most most_demand least_answer holder_at
    barred_at lowest_barred second_at clashes_at first_at lowest_clash wrong_in lowest_wrong open_verdict table_verdict verdict_of plan_answer plan_table
    word_of plan_words_answer plan_words check_words_answer stand overlay cell_changes changes mend_answer mend_table mend_list best_of mutual_in heaviest_in
    heaviest_of
edge = rw (air-faults.0, air-faults.1) refl

ruled : Answered desk_ruled
unfolding with_zeros first_of sum any part put list_of forbid marked fill unmet run reaches reached_by_both clash_in overloaded lowest_over load_verdict
    load_answer
    gap breaks break_of first_break chain_verdict chain_answer second splits split_of first_split class_verdict class_answer holder_at barred_at lowest_barred
    second_at clashes_at first_at lowest_clash wrong_in lowest_wrong open_verdict table_verdict verdict_of check_answer plan_answer plan_table word_of last
    missing odd
    fit give_numbers numbering moved_by moved_rows numbering_of site_numbers moved_site renumber_of
ruled =
    let f = air-faults in
    rw (f.2, f.3, f.4, f.5, f.6, f.15, f.16, f.17) refl

unruled : Answered desk_faults
unfolding with_zeros first_of any gap breaks break_of first_break chain_verdict chain_answer plan_answer plan_table
unruled =
    let f = air-faults in
    rw (f.7, f.8, f.9, f.10, f.11, f.12, f.13, f.14) refl

heaviest : Answered desk_heaviest
unfolding with_zeros first_of sum any most list_of reaches clash_in word_of best_of mutual_in heaviest_in heaviest_of
heaviest = rw (faults.0, faults.1, faults.2, faults.3, faults.4, faults.5, faults.6, faults.7, faults.8, faults.10, faults.13) refl

joined : (xs ys : List DeskLine) → Answered xs → Answered ys → Answered (xs ++ ys)
joined xs ys p q = map-append (λ l. l.asked) xs ys ∙ ap₂ ◌++◌ p q ∙ sym (map-append (λ l. l.said) xs ys)

pub desk-holds : Answered desk_table
desk-holds =
    let air = joined desk_edge (desk_ruled ++ desk_faults) edge (joined desk_ruled desk_faults ruled unruled) in
    joined desk_rules (desk_least ++ (desk_nested ++ (desk_words ++ (desk_mended ++ (desk_blocked ++ (desk_numbered ++ (desk_air ++ desk_heaviest))))))) rules
    (joined desk_least (desk_nested ++ (desk_words ++ (desk_mended ++ (desk_blocked ++ (desk_numbered ++ (desk_air ++ desk_heaviest)))))) least
    (joined desk_nested (desk_words ++ (desk_mended ++ (desk_blocked ++ (desk_numbered ++ (desk_air ++ desk_heaviest))))) nested
    (joined desk_words (desk_mended ++ (desk_blocked ++ (desk_numbered ++ (desk_air ++ desk_heaviest)))) words
    (joined desk_mended (desk_blocked ++ (desk_numbered ++ (desk_air ++ desk_heaviest))) mended
    (joined desk_blocked (desk_numbered ++ (desk_air ++ desk_heaviest)) blocked
    (joined desk_numbered (desk_air ++ desk_heaviest) renumbered
    (joined desk_air desk_heaviest air heaviest)))))))
