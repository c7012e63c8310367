-- All that `duggfrask why` prints of a site: the verdicts, that it has no numbering where it has none, its rule with each clash by a third cell, and the
-- last line.
use Rattle.std.specs.Prelude.{ℕ, List, ◌++◌, replicate, Result}
use Rattle.laws.specs.Choice.{pick}
use Rattle.site.specs.Record.{fault_of, is_fine, answer_with}
use Rattle.site.specs.declared.Site.{Site}
use Rattle.records.specs.Write.{written, laid_over}
use Rattle.records.specs.declared.WriteError.{WriteError}
use Rattle.records.specs.declared.WriteError.TheVariants.{Record}
use Rattle.why.specs.Said.{why_said}
use Rattle.say_numbering.specs.Anew.{anew_said}
use Rattle.say_rule.specs.Said.{rule_said, firsts_said}
use Rattle.finder.specs.Find.{find_answer}
use Rattle.finds.specs.Find.{last_line, why_tries}

-- what stands before the clashes by a third cell, with the table that the planner plans in
abbrev pub opening_said : Site → List ℕ → List ℕ
opening_said s table = why_said s table ++ (anew_said s ++ rule_said s)

abbrev pub whole_said : Site → List ℕ → List ℕ
whole_said s table = opening_said s table ++ (firsts_said s 32 ++ last_line (find_answer s why_tries table))

-- a table that is long enough for every site
unfoldable pub lent_table : List ℕ
lent_table = replicate 65536 0

unfoldable pub why_text : Site → List ℕ
why_text s = whole_said s lent_table

-- the record's faults first, then 13; no refusal writes
unfoldable pub why_written : Site → List ℕ → Result ℕ WriteError
why_written s out = answer_with Record (fault_of s) (written (why_text s) out)

unfoldable pub why_out : Site → List ℕ → List ℕ
why_out s out = pick (is_fine (fault_of s)) (laid_over (why_text s) out) out
