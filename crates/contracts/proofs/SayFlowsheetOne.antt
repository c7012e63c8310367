-- For any arguments one answer and one content of what is lent meet the contract, and no other, in crate `say_flowsheet`: by its equalities alone.
-- Made by tools/surface from the source. Assumes nothing.
use Rattle.std.specs.Prelude.{List, Result, length, refl, ℕ, ◌+◌, ◌≡◌}
use Rattle.contracts.specs.SayFlowsheetSays.{SayFlowsheetPutFlowSheet}
use Rattle.flowsheet.specs.declared.FlowsError.{FlowsError}
use Rattle.say_flowsheet.specs.Said.{flow_sheet_said}
use Rattle.std.proofs.lemmas.List.Edits.{sets}

-- say_flowsheet::put_flow_sheet
pub say_flowsheet_put_flow_sheet-one : (out : List ℕ) (at : ℕ) (reply : Result Unit FlowsError)
    → (r : ℕ) × (out' : List ℕ) × (SayFlowsheetPutFlowSheet out at reply r out')
    × ((q : ℕ) (out'' : List ℕ) → SayFlowsheetPutFlowSheet out at reply q out'' → (q ≡ r) × (out'' ≡ out'))
say_flowsheet_put_flow_sheet-one out at reply = (
  at + length (flow_sheet_said reply),
  sets out at (flow_sheet_said reply),
  record { answer = refl; out_after = refl },
  λ q out'' says. (says.answer, says.out_after),
)
