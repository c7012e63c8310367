-- What the planner answers and what it leaves in the lent table, for any site and any table.
use Rattle.std.specs.Prelude.{ℕ, ◌+◌, ◌*◌, List, ◌++◌, ltb, length, drop, replicate, Result, Ok, Err}
use Rattle.laws.specs.Choice.{pick}
use Rattle.theory.specs.Net.{Net}
use Rattle.theory.specs.Greedy.{Outcome, planned, no_room, greedy}
use Rattle.site.specs.Record.{size, fault_of, is_fine, answer_with}
use Rattle.site.specs.Reach.{net_of}
use Rattle.site.specs.declared.Site.{Site}
use Rattle.planner.specs.declared.PlanError.{PlanError}
use Rattle.planner.specs.declared.PlanError.TheVariants.{TableShort, NoRoom, Record}

-- 0 done; 5 "planner finds no room", with "cell, fragments short"
abbrev pub answer_of : Outcome → Result Unit PlanError
answer_of (planned t) = Ok tt
answer_of (no_room c m) = Err (NoRoom (c + 1) m)

-- "The planner's refusal 5 leaves the first IN bytes 0"
abbrev pub table_of : ℕ → Outcome → List ℕ
table_of m (planned t) = t
table_of m (no_room c l) = replicate m 0

-- "Table bytes past IN .. are never written": what the greedy run leaves of t
abbrev pub leaves : Net → List ℕ → List ℕ
leaves s t = table_of (s.cells * s.width) (greedy s) ++ drop (s.cells * s.width) t

-- "Order: record 1, 2, 3, .. then 4, then 5": 4 "lent table shorter than IN"
unfoldable pub plan_answer : Site → List ℕ → Result Unit PlanError
plan_answer s t = answer_with Record (fault_of s) (pick (ltb (length t) (size s)) (Err TableShort) (answer_of (greedy (net_of s))))

-- "The planner's refusal 5 leaves the first IN bytes 0; no other refusal writes. Table bytes past IN .. are never written."
unfoldable pub plan_table : Site → List ℕ → List ℕ
plan_table s t = pick (is_fine (fault_of s)) (pick (ltb (length t) (size s)) t (leaves (net_of s) t)) t
