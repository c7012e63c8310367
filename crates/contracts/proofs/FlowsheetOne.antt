-- For any arguments one answer and one content of what is lent meet the contract, and no other, in crate `flowsheet`: by its equalities alone.
-- Made by tools/surface from the source. Assumes nothing.
use Rattle.std.specs.Prelude.{List, refl, ℕ, ◌≡◌}
use Rattle.contracts.specs.FlowsheetSays.{ReadFlows}
use Rattle.flowsheet.specs.Read.{read_flows}
use Rattle.flowsheet.specs.declared.FlowsRead.{FlowsRead}

-- flowsheet::read_flows
pub read_flows-one : (bytes : List ℕ)
    → (r : FlowsRead) × (ReadFlows bytes r)
    × ((q : FlowsRead) → ReadFlows bytes q → (q ≡ r))
read_flows-one bytes = (
  read_flows bytes,
  record { answer = refl },
  λ q says. says.answer,
)
