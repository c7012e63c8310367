-- For any arguments one answer and one content of what is lent meet the contract, and no other, in crate `checker`: by its equalities alone.
-- Made by tools/surface from the source. Assumes nothing.
use Rattle.std.specs.Prelude.{List, Result, refl, ℕ, ◌≡◌}
use Rattle.checker.specs.Check.{check_answer}
use Rattle.checker.specs.declared.CheckError.{CheckError}
use Rattle.checker.specs.declared.CheckError.TheVariants.{Record}
use Rattle.contracts.specs.CheckerSays.{Check, CheckErrorFromFault}
use Rattle.site.specs.declared.Fault.{Fault}
use Rattle.site.specs.declared.Site.{Site}

-- checker::CheckError::from_fault
pub check_error_from_fault-one : (f : Fault)
    → (r : CheckError) × (CheckErrorFromFault f r)
    × ((q : CheckError) → CheckErrorFromFault f q → (q ≡ r))
check_error_from_fault-one f = (
  Record f,
  record { answer = refl },
  λ q says. says.answer,
)

-- checker::check
pub check-one : (site : Site) (table : List ℕ)
    → (r : Result Unit CheckError) × (Check site table r)
    × ((q : Result Unit CheckError) → Check site table q → (q ≡ r))
check-one site table = (
  check_answer site table,
  record { answer = refl },
  λ q says. says.answer,
)
