-- For any arguments one answer and one content of what is lent meet the contract, and no other, in crate `handheld`: by its equalities alone.
-- Made by tools/surface from the source. Assumes nothing.
use Rattle.std.specs.Prelude.{List, Result, refl, ℕ, ◌≡◌}
use Rattle.contracts.specs.HandheldSays.{ChangeErrorFromFault, ChangeErrorFromPlanError, ChangeLoad, ChangedLoad}
use Rattle.handheld.specs.Change.{change_answer, change_site, change_table, changed_of, error_of}
use Rattle.handheld.specs.declared.ChangeError.{ChangeError}
use Rattle.handheld.specs.declared.ChangeError.TheVariants.{Record}
use Rattle.handheld.specs.declared.Changed.{Changed}
use Rattle.planner.specs.declared.PlanError.{PlanError}
use Rattle.site.specs.declared.Fault.{Fault}
use Rattle.site.specs.declared.Site.{Site}

-- handheld::ChangeError::from_fault
pub change_error_from_fault-one : (f : Fault)
    → (r : ChangeError) × (ChangeErrorFromFault f r)
    × ((q : ChangeError) → ChangeErrorFromFault f q → (q ≡ r))
change_error_from_fault-one f = (
  Record f,
  record { answer = refl },
  λ q says. says.answer,
)

-- handheld::ChangeError::from_plan_error
pub change_error_from_plan_error-one : (p : PlanError)
    → (r : ChangeError) × (ChangeErrorFromPlanError p r)
    × ((q : ChangeError) → ChangeErrorFromPlanError p q → (q ≡ r))
change_error_from_plan_error-one p = (
  error_of p,
  record { answer = refl },
  λ q says. says.answer,
)

-- handheld::changed_load
pub changed_load-one : (site : Site) (cell : ℕ) (load : ℕ) (table : List ℕ)
    → (r : Changed) × (table' : List ℕ) × (ChangedLoad site cell load table r table')
    × ((q : Changed) (table'' : List ℕ) → ChangedLoad site cell load table q table'' → (q ≡ r) × (table'' ≡ table'))
changed_load-one site cell load table = (
  changed_of site cell load table,
  change_table site cell load table,
  record { answer = refl; table_after = refl },
  λ q table'' says. (says.answer, says.table_after),
)

-- handheld::change_load
pub change_load-one : (site : Site) (cell : ℕ) (load : ℕ) (table : List ℕ)
    → (r : Result Unit ChangeError) × (site' : Site) × (table' : List ℕ) × (ChangeLoad site cell load table r site' table')
    × ((q : Result Unit ChangeError) (site'' : Site) (table'' : List ℕ) → ChangeLoad site cell load table q site'' table''
    → (q ≡ r) × (site'' ≡ site') × (table'' ≡ table'))
change_load-one site cell load table = (
  change_answer site cell load table,
  change_site site cell load table,
  change_table site cell load table,
  record { answer = refl; site_after = refl; table_after = refl },
  λ q site'' table'' says. (says.answer, says.site_after, says.table_after),
)
