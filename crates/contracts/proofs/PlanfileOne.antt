-- For any arguments one answer and one content of what is lent meet the contract, and no other, in crate `planfile`: by its equalities alone.
-- Made by tools/surface from the source. Assumes nothing.
use Rattle.std.specs.Prelude.{List, Result, refl, ℕ, ◌≡◌}
use Rattle.contracts.specs.PlanfileSays.{PlanWriteErrorFromFault, ReadPlan, WritePlan}
use Rattle.planfile.specs.Read.{plan_table_read, read_plan}
use Rattle.planfile.specs.Write.{plan_out, plan_written}
use Rattle.planfile.specs.declared.PlanRead.{PlanRead}
use Rattle.planfile.specs.declared.PlanWriteError.{PlanWriteError}
use Rattle.planfile.specs.declared.PlanWriteError.TheVariants.{Record}
use Rattle.site.specs.declared.Fault.{Fault}
use Rattle.site.specs.declared.Site.{Site}

-- planfile::PlanWriteError::from_fault
pub plan_write_error_from_fault-one : (f : Fault)
    → (r : PlanWriteError) × (PlanWriteErrorFromFault f r)
    × ((q : PlanWriteError) → PlanWriteErrorFromFault f q → (q ≡ r))
plan_write_error_from_fault-one f = (
  Record f,
  record { answer = refl },
  λ q says. says.answer,
)

-- planfile::read_plan
pub read_plan-one : (bytes : List ℕ) (table : List ℕ)
    → (r : PlanRead) × (table' : List ℕ) × (ReadPlan bytes table r table')
    × ((q : PlanRead) (table'' : List ℕ) → ReadPlan bytes table q table'' → (q ≡ r) × (table'' ≡ table'))
read_plan-one bytes table = (
  read_plan bytes table,
  plan_table_read bytes table,
  record { answer = refl; table_after = refl },
  λ q table'' says. (says.answer, says.table_after),
)

-- planfile::write_plan
pub write_plan-one : (site : Site) (table : List ℕ) (out : List ℕ)
    → (r : Result ℕ PlanWriteError) × (out' : List ℕ) × (WritePlan site table out r out')
    × ((q : Result ℕ PlanWriteError) (out'' : List ℕ) → WritePlan site table out q out'' → (q ≡ r) × (out'' ≡ out'))
write_plan-one site table out = (
  plan_written site table out,
  plan_out site table out,
  record { answer = refl; out_after = refl },
  λ q out'' says. (says.answer, says.out_after),
)
