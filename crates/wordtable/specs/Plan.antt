-- What the word planner answers, and what it leaves in the lent words: the greedy plan of planner/specs/Plan.antt as words.
use Rattle.std.specs.Prelude.{List, ◌++◌, ℕ, ltb, length, drop, Result, Err}
use Rattle.laws.specs.Choice.{pick}
use Rattle.theory.specs.Greedy.{greedy}
use Rattle.site.specs.Record.{positions, fault_of, is_fine, answer_with}
use Rattle.site.specs.Reach.{net_of}
use Rattle.site.specs.declared.Site.{Site}
use Rattle.words.specs.Words.{out_words}
use Rattle.planner.specs.Plan.{answer_of}
use Rattle.planner.specs.declared.PlanError.{PlanError}
use Rattle.planner.specs.declared.PlanError.TheVariants.{TableShort, Record}

-- "Refusal 4 is given when fewer than N words are lent": after the record's 1, 24, 2, 3 and 20, and before 5
unfoldable pub plan_words_answer : Site → List ℕ → Result Unit PlanError
plan_words_answer s w = answer_with Record (fault_of s) (pick (ltb (length w) (positions s)) (Err TableShort) (answer_of (greedy (net_of s))))

-- "5 leaves N words of 0; words past N are never written." No other refusal writes.
unfoldable pub plan_words : Site → List ℕ → List ℕ
plan_words s w =
    pick (is_fine (fault_of s))
    (pick (ltb (length w) (positions s)) w (out_words s.cells (positions s) (greedy (net_of s)) ++ drop (positions s) w))
    w
