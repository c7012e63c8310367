-- For any arguments one answer and one content of what is lent meet the contract, and no other, in crate `linefaults`: by its equalities alone.
-- Made by tools/surface from the source. Assumes nothing.
use Rattle.std.specs.Prelude.{List, Option, refl, ℕ, ◌≡◌}
use Rattle.contracts.specs.LinefaultsSays.{LinefaultsFaultOfLine}
use Rattle.linefaults.specs.Fault.{fault_of_line}
use Rattle.linefaults.specs.declared.LineFault.{LineFault}

-- linefaults::fault_of_line
pub linefaults_fault_of_line-one : (sheet : List ℕ) (line : ℕ)
    → (r : Option LineFault) × (LinefaultsFaultOfLine sheet line r)
    × ((q : Option LineFault) → LinefaultsFaultOfLine sheet line q → (q ≡ r))
linefaults_fault_of_line-one sheet line = (
  fault_of_line sheet line,
  record { answer = refl },
  λ q says. says.answer,
)
