-- The equalities that the contracts of crate `planfile` state: r is the answer, and x' what a lent x holds afterwards.
-- Made by tools/surface from the source.
use Rattle.std.specs.Prelude.{List, Result, ℕ, ◌≡◌}
use Rattle.planfile.specs.Read.{plan_table_read, read_plan}
use Rattle.planfile.specs.Write.{plan_out, plan_written}
use Rattle.planfile.specs.declared.PlanRead.{PlanRead}
use Rattle.planfile.specs.declared.PlanWriteError.{PlanWriteError}
use Rattle.planfile.specs.declared.PlanWriteError.TheVariants.{Record}
use Rattle.site.specs.declared.Fault.{Fault}
use Rattle.site.specs.declared.Site.{Site}

-- planfile::PlanWriteError::from_fault
pub record PlanWriteErrorFromFault (f : Fault) (r : PlanWriteError) : Type 0 where
  pub answer : r ≡ Record f

-- planfile::read_plan
pub record ReadPlan (bytes : List ℕ) (table : List ℕ) (r : PlanRead) (table' : List ℕ) : Type 0 where
  pub answer : r ≡ read_plan bytes table
  pub table_after : table' ≡ plan_table_read bytes table

-- planfile::write_plan
pub record WritePlan (site : Site) (table : List ℕ) (out : List ℕ) (r : Result ℕ PlanWriteError) (out' : List ℕ) : Type 0 where
  pub answer : r ≡ plan_written site table out
  pub out_after : out' ≡ plan_out site table out
