-- The sheet of flows: what `read_flows` answers and gives, with any input, in the documents' numbers and over the format.
-- The laws are those of crate `flowsheet`.
-- Assumes nothing.
use mathlib.Core.Path.{◌≡◌, sym, ap, ◌∙◌}
use mathlib.Core.List.{List, [], ◌∷◌}
use mathlib.Core.Logic.{◌↔◌}
use Prim.Native.Nat.{ℕ}
use lib.ListN.{length, replicate}
use Rattle.std.specs.Prelude.{Ok, Err}
use Rattle.flowlist.specs.List.{zero_flow, no_flows, gathered}
use Rattle.flowlist.specs.declared.Flow.{Flow}
use Rattle.flowlist.specs.declared.FlowList.{FlowList}
use Rattle.flowlist.proofs.Laws.{gathered-apart}
use Rattle.flowsheet.specs.Read.{read_flows}
use Rattle.flowsheet.specs.Means.{FlowsOf, FirstBadOfFlows, TooManyFlows}
use Rattle.flowsheet.specs.Given.{flows_given}
use Rattle.flowsheet.specs.declared.FlowsRead.{FlowsRead}
use Rattle.flowsheet.specs.declared.FlowsError.TheVariants.{BadLine, TooMany}
use Rattle.flowsheet.proofs.Given.{flows-apart}
use Rattle.flowsheet.proofs.Answers.{first-told, over-told, flows-given, bad-first, over-is, accepted-is, none_beside}
use Rattle.demanded.specs.Numbers.{done, refused}

module _ (b : List ℕ) where
  -- 17 gives the first line that is not so, from 1.
  pub flows-seventeen : (l : ℕ) → flows_given (read_flows b).answer ≡ refused 17 (l ∷ []) ↔ FirstBadOfFlows b l
  flows-seventeen l = (
    λ e. bad-first b l (flows-apart (read_flows b).answer (Err (BadLine l)) e),
    λ f. ap (λ (r : FlowsRead). flows_given r.answer) (first-told b l f),
  )

  -- A line after the sixteenth flow's is 18, whatever stands in it.
  pub flows-eighteen : flows_given (read_flows b).answer ≡ refused 18 [] ↔ TooManyFlows b
  flows-eighteen = (
    λ e. over-is b (flows-apart (read_flows b).answer (Err TooMany) e),
    λ o. ap (λ (r : FlowsRead). flows_given r.answer) (over-told b o),
  )

  -- exactly the sheets of at most 16 flows are accepted, each with its flows
  pub flows-exactly : (fs : List Flow)
      → ((flows_given (read_flows b).answer ≡ done) × ((read_flows b).flows ≡ gathered fs (length fs))) ↔ FlowsOf b fs
  flows-exactly fs = (
    λ w.
        let a = accepted-is b (flows-apart (read_flows b).answer (Ok tt) w.0) in
        let same : a.0 ≡ fs = gathered-apart a.0 fs a.1.few (sym a.2 ∙ w.1) in
        rw same at a.1,
    λ w.
        let is = flows-given b fs w in
        (ap (λ (r : FlowsRead). flows_given r.answer) is, ap (λ (r : FlowsRead). r.flows) is),
  )

  -- no flows stand beside a refusal: none are counted, and all 16 places are zeros
  pub flows-refused-none : (flows_given (read_flows b).answer ≡ done → ⊥) → ((read_flows b).flows.count ≡ 0) ×
      ((read_flows b).flows.list ≡ replicate 16 zero_flow)
  unfolding no_flows
  flows-refused-none n =
      let e = none_beside b (λ q. n (ap flows_given q)) in
      (ap (λ (l : FlowList). l.count) e, ap (λ (l : FlowList). l.list) e)
