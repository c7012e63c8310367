-- All that `why` says of a small site, letter by letter and in this order: the verdicts and numbers, that it has no numbering, its rule, each clash by a third
-- cell, and the last word. Assumes nothing.
use mathlib.Core.List.{[], ◌∷◌}
use mathlib.Core.Path.{◌≡◌, refl}
use lib.ListN.{replicate}
use Rattle.laws.specs.Bits.{word_of}
use Rattle.laws.specs.Most.{most}
use Rattle.laws.specs.Part.{part}
use Rattle.laws.specs.Search.{first_of}
use Rattle.laws.specs.Sum.{sum, any}
use Rattle.theory.specs.Greedy.{forbid, marked, fill, run}
use Rattle.theory.specs.Verdict.{overloaded, lowest_over, load_verdict, most_demand, gap, breaks, break_of, first_break, chain_verdict}
use Rattle.theory.specs.Verdict.{second, splits, split_of, first_split, class_verdict}
use Rattle.admitting.specs.Best.{best_of}
use Rattle.renumbering.specs.Numbering.{last, missing, odd, fit, give_numbers, numbering}
use Rattle.site.specs.Record.{site_of, size, up_to, size_ok, rule_ok, row_bad, extra_load, bad_row, extra_blocked, fault_of}
use Rattle.site.specs.Reach.{reaches, reached_by_both, clash_in}
use Rattle.site.specs.declared.Site.{Site}
use Rattle.planner.specs.Plan.{plan_answer}
use Rattle.judges.specs.Judges.{load_answer, chain_answer, class_answer, least_answer}
use Rattle.heaviest.specs.Sets.{mutual_in, heaviest_in, heaviest_of}
use Rattle.numbering.specs.Renumber.{numbering_of, site_numbers, renumber_of}
use Rattle.finding.specs.Found.{found_of}
use Rattle.finder.specs.Find.{find_answer}
use Rattle.text.specs.Decimal.{digits_of, decimal}
use Rattle.speech.specs.Speech.{spoken}
use Rattle.why.specs.Lines.{why_lines}
use Rattle.why.specs.Said.{takes_phrase, set_phrase, cell_phrase, cell_phrases, fewest, size_phrase, why_phrases, why_said}
use Rattle.why.proofs.Example.{filled, letters}
use Rattle.say_numbering.specs.Lines.{anew_lines}
use Rattle.say_numbering.specs.Anew.{anew_said}
use Rattle.say_rule.specs.Lines.{rule_lines}
use Rattle.say_rule.specs.Said.{third_of, by_third, seconds_said, firsts_said}
use Rattle.finds.specs.Lines.{last_lines}
use Rattle.whytext.specs.Text.{whole_said}

-- under rule 2: 1 and 2 reach 5, 2 reaches 3, 3 reaches 4 and 4 reaches 1. Cells 1 to 4 clash in a ring, so that no numbering is nested
ring : Site
ring = site_of 5 3 1 (filled (1 ∷ 1 ∷ 1 ∷ 1 ∷ 1 ∷ [])) (filled (16 ∷ 20 ∷ 8 ∷ 1 ∷ [])) [] 2

-- the text, with a table that is just long enough
whole-said :
    whole_said ring (replicate (size ring) 0)
    ≡ letters
    ("not chained: cells 1 and 4 clash, and cell 3 between them does not clash with cell 1\n"
    ∷ "not nested: cells 1 and 3 clash with cell 4, and not with one another\n"
    ∷ "the load test holds\n"
    ∷ "planned\n"
    ∷ "it takes 3 channel-slots, and no fewer; the site has 3\n"
    ∷ "of all cells that clash with one another these need the most, 3:\n"
    ∷ "  cell 1, load 1\n"
    ∷ "  cell 2, load 1\n"
    ∷ "  cell 5, load 1\n"
    ∷ "with 1 channel: 3 slots, and no fewer\n"
    ∷ "with 3 slots: 1 channel, and no fewer\n"
    ∷ "no numbering of all its cells, idle ones too, is nested\n"
    ∷ "rule 2: two cells clash also when some third cell is reached by both\n"
    ∷ "  1 and 2 clash: both reach 5\n"
    ∷ "planned\n"
    ∷ [])
unfolding ring first_of sum any most part forbid marked fill run overloaded lowest_over load_verdict most_demand gap breaks break_of first_break
    chain_verdict second splits split_of first_split class_verdict class_answer best_of word_of up_to size_ok rule_ok row_bad extra_load bad_row extra_blocked
    fault_of reaches reached_by_both clash_in plan_answer load_answer chain_answer least_answer mutual_in heaviest_in heaviest_of last missing odd fit
    give_numbers numbering numbering_of site_numbers renumber_of found_of find_answer digits_of decimal spoken why_lines takes_phrase set_phrase cell_phrase
    cell_phrases fewest size_phrase why_phrases why_said anew_lines anew_said rule_lines third_of by_third seconds_said firsts_said last_lines
whole-said = refl
