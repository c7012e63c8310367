-- For any arguments one answer and one content of what is lent meet the contract, and no other, in crate `numbering`: by its equalities alone.
-- Made by tools/surface from the source. Assumes nothing.
use Rattle.std.specs.Prelude.{List, Result, refl, ℕ, ◌≡◌}
use Rattle.contracts.specs.NumberingSays.{Carry, CarryErrorFromRenumberError, Renumber, RenumberErrorFromFault}
use Rattle.numbering.specs.Carried.{carry_answer, carry_refused, carry_table}
use Rattle.numbering.specs.Renumber.{renumber_of}
use Rattle.numbering.specs.declared.CarryError.{CarryError}
use Rattle.numbering.specs.declared.RenumberError.{RenumberError}
use Rattle.numbering.specs.declared.RenumberError.TheVariants.{Record}
use Rattle.numbering.specs.declared.Renumbered.{Renumbered}
use Rattle.site.specs.declared.Fault.{Fault}
use Rattle.site.specs.declared.Site.{Site}

-- numbering::RenumberError::from_fault
pub renumber_error_from_fault-one : (f : Fault)
    → (r : RenumberError) × (RenumberErrorFromFault f r)
    × ((q : RenumberError) → RenumberErrorFromFault f q → (q ≡ r))
renumber_error_from_fault-one f = (
  Record f,
  record { answer = refl },
  λ q says. says.answer,
)

-- numbering::CarryError::from_renumber_error
pub carry_error_from_renumber_error-one : (x : RenumberError)
    → (r : CarryError) × (CarryErrorFromRenumberError x r)
    × ((q : CarryError) → CarryErrorFromRenumberError x q → (q ≡ r))
carry_error_from_renumber_error-one x = (
  carry_refused x,
  record { answer = refl },
  λ q says. says.answer,
)

-- numbering::renumber
pub renumber-one : (site : Site)
    → (r : Renumbered) × (Renumber site r)
    × ((q : Renumbered) → Renumber site q → (q ≡ r))
renumber-one site = (
  renumber_of site,
  record { answer = refl },
  λ q says. says.answer,
)

-- numbering::carry
pub carry-one : (site : Site) (from : List ℕ) (to : List ℕ)
    → (r : Result Unit CarryError) × (to' : List ℕ) × (Carry site from to r to')
    × ((q : Result Unit CarryError) (to'' : List ℕ) → Carry site from to q to'' → (q ≡ r) × (to'' ≡ to'))
carry-one site from to = (
  carry_answer site from to,
  carry_table site from to,
  record { answer = refl; to_after = refl },
  λ q to'' says. (says.answer, says.to_after),
)
