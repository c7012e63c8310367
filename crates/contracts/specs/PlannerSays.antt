-- The equalities that the contracts of crate `planner` state: r is the answer, and x' what a lent x holds afterwards.
-- Made by tools/surface from the source.
use Rattle.std.specs.Prelude.{List, Result, ℕ, ◌≡◌}
use Rattle.planner.specs.Plan.{plan_answer, plan_table}
use Rattle.planner.specs.declared.PlanError.{PlanError}
use Rattle.planner.specs.declared.PlanError.TheVariants.{Record}
use Rattle.site.specs.declared.Fault.{Fault}
use Rattle.site.specs.declared.Site.{Site}

-- planner::PlanError::from_fault
pub record PlanErrorFromFault (f : Fault) (r : PlanError) : Type 0 where
  pub answer : r ≡ Record f

-- planner::plan
pub record Plan (site : Site) (table : List ℕ) (r : Result Unit PlanError) (table' : List ℕ) : Type 0 where
  pub answer : r ≡ plan_answer site table
  pub table_after : table' ≡ plan_table site table
