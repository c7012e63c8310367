-- The equalities that the contracts of crate `say_flows` state: r is the answer, and x' what a lent x holds afterwards.
-- Made by tools/surface from the source.
use Rattle.std.specs.Prelude.{List, Result, get_or, length, ℕ, ◌+◌, ◌≡◌}
use Rattle.admission.specs.declared.AdmitError.{AdmitError}
use Rattle.admission.specs.declared.BesideError.{BesideError}
use Rattle.flowlist.specs.List.{zero_flow}
use Rattle.flowlist.specs.declared.FlowList.{FlowList}
use Rattle.say_flows.specs.Said.{admit_said, beside_said}
use Rattle.site.specs.declared.Site.{Site}
use Rattle.std.proofs.lemmas.List.Edits.{sets}

-- say_flows::put_admit
pub record SayFlowsPutAdmit (out : List ℕ) (at : ℕ) (site : Site) (l : FlowList) (count : ℕ) (reply : Result ℕ AdmitError) (r : ℕ)
    (out' : List ℕ) : Type 0 where
  pub answer : r ≡ at + length (admit_said site (λ k. get_or l.list k zero_flow) count reply)
  pub out_after : out' ≡ sets out at (admit_said site (λ k. get_or l.list k zero_flow) count reply)

-- say_flows::put_beside
pub record SayFlowsPutBeside (out : List ℕ) (at : ℕ) (site : Site) (l : FlowList) (count : ℕ) (reply : Result ℕ BesideError) (r : ℕ)
    (out' : List ℕ) : Type 0 where
  pub answer : r ≡ at + length (beside_said site (λ k. get_or l.list k zero_flow) count reply)
  pub out_after : out' ≡ sets out at (beside_said site (λ k. get_or l.list k zero_flow) count reply)
