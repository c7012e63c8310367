-- The equalities that the contracts of crate `checker` state: r is the answer, and x' what a lent x holds afterwards.
-- Made by tools/surface from the source.
use Rattle.std.specs.Prelude.{List, Result, ℕ, ◌≡◌}
use Rattle.checker.specs.Check.{check_answer}
use Rattle.checker.specs.declared.CheckError.{CheckError}
use Rattle.checker.specs.declared.CheckError.TheVariants.{Record}
use Rattle.site.specs.declared.Fault.{Fault}
use Rattle.site.specs.declared.Site.{Site}

-- checker::CheckError::from_fault
pub record CheckErrorFromFault (f : Fault) (r : CheckError) : Type 0 where
  pub answer : r ≡ Record f

-- checker::check
pub record Check (site : Site) (table : List ℕ) (r : Result Unit CheckError) : Type 0 where
  pub answer : r ≡ check_answer site table
