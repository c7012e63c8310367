-- For any arguments one answer and one content of what is lent meet the contract, and no other, in crate `say_flows`: by its equalities alone.
-- Made by tools/surface from the source. Assumes nothing.
use Rattle.std.specs.Prelude.{List, Result, get_or, length, refl, ℕ, ◌+◌, ◌≡◌}
use Rattle.admission.specs.declared.AdmitError.{AdmitError}
use Rattle.admission.specs.declared.BesideError.{BesideError}
use Rattle.contracts.specs.SayFlowsSays.{SayFlowsPutAdmit, SayFlowsPutBeside}
use Rattle.flowlist.specs.List.{zero_flow}
use Rattle.flowlist.specs.declared.FlowList.{FlowList}
use Rattle.say_flows.specs.Said.{admit_said, beside_said}
use Rattle.site.specs.declared.Site.{Site}
use Rattle.std.proofs.lemmas.List.Edits.{sets}

-- say_flows::put_admit
pub say_flows_put_admit-one : (out : List ℕ) (at : ℕ) (site : Site) (l : FlowList) (count : ℕ) (reply : Result ℕ AdmitError)
    → (r : ℕ) × (out' : List ℕ) × (SayFlowsPutAdmit out at site l count reply r out')
    × ((q : ℕ) (out'' : List ℕ) → SayFlowsPutAdmit out at site l count reply q out'' → (q ≡ r) × (out'' ≡ out'))
say_flows_put_admit-one out at site l count reply = (
  at + length (admit_said site (λ k. get_or l.list k zero_flow) count reply),
  sets out at (admit_said site (λ k. get_or l.list k zero_flow) count reply),
  record { answer = refl; out_after = refl },
  λ q out'' says. (says.answer, says.out_after),
)

-- say_flows::put_beside
pub say_flows_put_beside-one : (out : List ℕ) (at : ℕ) (site : Site) (l : FlowList) (count : ℕ) (reply : Result ℕ BesideError)
    → (r : ℕ) × (out' : List ℕ) × (SayFlowsPutBeside out at site l count reply r out')
    × ((q : ℕ) (out'' : List ℕ) → SayFlowsPutBeside out at site l count reply q out'' → (q ≡ r) × (out'' ≡ out'))
say_flows_put_beside-one out at site l count reply = (
  at + length (beside_said site (λ k. get_or l.list k zero_flow) count reply),
  sets out at (beside_said site (λ k. get_or l.list k zero_flow) count reply),
  record { answer = refl; out_after = refl },
  λ q out'' says. (says.answer, says.out_after),
)
