-- The tally of an audit: a byte for each site file. Its two lowest bits say what is found for the site, and the others what is said of the plan beside it.
use Rattle.std.specs.Prelude.{ℕ, ◌+◌, ◌/◌, ◌%◌, Bool, List, eqb, length, get_or, Option, Some, None, Result, Ok, Err}
use Rattle.laws.specs.Choice.{pick}
use Rattle.laws.specs.Sum.{count}
use Rattle.checker.specs.declared.CheckError.{CheckError}
use Rattle.finder.specs.declared.Way.{Way}
use Rattle.finder.specs.declared.FindError.{FindError}
use Rattle.finder.specs.declared.FindError.TheVariants as find
use Rattle.oneway.specs.TwoWay.{is_valid}
use Rattle.say_tally.specs.declared.PlanSaid.{PlanSaid}
use Rattle.say_tally.specs.declared.PlanSaid.TheVariants.{Valid, Wrong, Unseen, Refused}

-- 0 a plan, 1 full, 2 not known, 3 refused
abbrev pub found_mark : Result Way FindError → ℕ
found_mark (Ok way) = 0
found_mark (Err (find.Full x)) = 1
found_mark (Err find.FullInClass) = 1
found_mark (Err (find.FullSearched n)) = 1
found_mark (Err (find.NotKnown n)) = 2
found_mark (Err find.TableShort) = 3
found_mark (Err (find.Record f)) = 3

-- in fours: 0 none, 1 valid, 2 not valid, 3 not valid, and valid if only two-way ranges clashed, 4 refused
abbrev pub plan_mark : Option PlanSaid → ℕ
plan_mark None = 0
plan_mark (Some Valid) = 4
plan_mark (Some Wrong) = 8
plan_mark (Some Unseen) = 12
plan_mark (Some Refused) = 16

abbrev pub verdict_said : Result Unit CheckError → Bool → PlanSaid
verdict_said verdict unseen = pick (is_valid verdict) Valid (pick unseen Unseen Wrong)

abbrev pub mark_of : Result Way FindError → Option PlanSaid → ℕ
mark_of found plan = found_mark found + plan_mark plan

-- a site file that is refused has no plan to speak of
abbrev pub refused_mark : ℕ
refused_mark = 3

-- how many marks have this part: of the site with a = 1 and b = 4, of the plan with a = 4 and b = 8
unfoldable pub marks_with : (a b part : ℕ) → List ℕ → ℕ
marks_with a b part tally = count (λ i. eqb (get_or tally i 0 / a % b) part) (length tally)

-- so many sites have a plan, are full, are not known, are refused
abbrev pub sites_marked : ℕ → List ℕ → ℕ
sites_marked = marks_with 1 4

-- so many plans are valid, not valid, not valid but for one-way ranges, refused
abbrev pub plans_marked : ℕ → List ℕ → ℕ
plans_marked = marks_with 4 8
