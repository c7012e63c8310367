-- The equalities that the contracts of crate `say_flowsheet` state: r is the answer, and x' what a lent x holds afterwards.
-- Made by tools/surface from the source.
use Rattle.std.specs.Prelude.{List, Result, length, ℕ, ◌+◌, ◌≡◌}
use Rattle.flowsheet.specs.declared.FlowsError.{FlowsError}
use Rattle.say_flowsheet.specs.Said.{flow_sheet_said}
use Rattle.std.proofs.lemmas.List.Edits.{sets}

-- say_flowsheet::put_flow_sheet
pub record SayFlowsheetPutFlowSheet (out : List ℕ) (at : ℕ) (reply : Result Unit FlowsError) (r : ℕ) (out' : List ℕ) : Type 0 where
  pub answer : r ≡ at + length (flow_sheet_said reply)
  pub out_after : out' ≡ sets out at (flow_sheet_said reply)
