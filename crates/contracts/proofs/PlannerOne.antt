-- For any arguments one answer and one content of what is lent meet the contract, and no other, in crate `planner`: by its equalities alone.
-- Made by tools/surface from the source. Assumes nothing.
use Rattle.std.specs.Prelude.{List, Result, refl, ℕ, ◌≡◌}
use Rattle.contracts.specs.PlannerSays.{Plan, PlanErrorFromFault}
use Rattle.planner.specs.Plan.{plan_answer, plan_table}
use Rattle.planner.specs.declared.PlanError.{PlanError}
use Rattle.planner.specs.declared.PlanError.TheVariants.{Record}
use Rattle.site.specs.declared.Fault.{Fault}
use Rattle.site.specs.declared.Site.{Site}

-- planner::PlanError::from_fault
pub plan_error_from_fault-one : (f : Fault)
    → (r : PlanError) × (PlanErrorFromFault f r)
    × ((q : PlanError) → PlanErrorFromFault f q → (q ≡ r))
plan_error_from_fault-one f = (
  Record f,
  record { answer = refl },
  λ q says. says.answer,
)

-- planner::plan
pub plan-one : (site : Site) (table : List ℕ)
    → (r : Result Unit PlanError) × (table' : List ℕ) × (Plan site table r table')
    × ((q : Result Unit PlanError) (table'' : List ℕ) → Plan site table q table'' → (q ≡ r) × (table'' ≡ table'))
plan-one site table = (
  plan_answer site table,
  plan_table site table,
  record { answer = refl; table_after = refl },
  λ q table'' says. (says.answer, says.table_after),
)
