-- The equalities that the contracts of crate `handheld` state: r is the answer, and x' what a lent x holds afterwards.
-- Made by tools/surface from the source.
use Rattle.std.specs.Prelude.{List, Result, ℕ, ◌≡◌}
use Rattle.handheld.specs.Change.{change_answer, change_site, change_table, changed_of, error_of}
use Rattle.handheld.specs.declared.ChangeError.{ChangeError}
use Rattle.handheld.specs.declared.ChangeError.TheVariants.{Record}
use Rattle.handheld.specs.declared.Changed.{Changed}
use Rattle.planner.specs.declared.PlanError.{PlanError}
use Rattle.site.specs.declared.Fault.{Fault}
use Rattle.site.specs.declared.Site.{Site}

-- handheld::ChangeError::from_fault
pub record ChangeErrorFromFault (f : Fault) (r : ChangeError) : Type 0 where
  pub answer : r ≡ Record f

-- handheld::ChangeError::from_plan_error
pub record ChangeErrorFromPlanError (p : PlanError) (r : ChangeError) : Type 0 where
  pub answer : r ≡ error_of p

-- handheld::changed_load
pub record ChangedLoad (site : Site) (cell : ℕ) (load : ℕ) (table : List ℕ) (r : Changed) (table' : List ℕ) : Type 0 where
  pub answer : r ≡ changed_of site cell load table
  pub table_after : table' ≡ change_table site cell load table

-- handheld::change_load
pub record ChangeLoad (site : Site) (cell : ℕ) (load : ℕ) (table : List ℕ) (r : Result Unit ChangeError) (site' : Site) (table' : List ℕ) : Type 0 where
  pub answer : r ≡ change_answer site cell load table
  pub site_after : site' ≡ change_site site cell load table
  pub table_after : table' ≡ change_table site cell load table
