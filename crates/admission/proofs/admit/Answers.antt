-- `admission::admit` meets its contract: the first 16 flows answer for the list. Assumes nothing.
use mathlib.Core.Path.{ap, ◌∙◌}
use Prim.Native.Nat.{ℕ}
use lib.ListN.{length, get_or}
use Rattle.flowlist.specs.List.{zero_flow}
use Rattle.flowlist.specs.declared.Flow.{Flow}
use Rattle.flowlist.specs.declared.FlowList.{FlowList}
use Rattle.admission.specs.Admit.{answer_in}
use Rattle.admission.proofs.Listed.{list-answer}
use Rattle.admission.proofs.admit.Goals as goal

-- the flows that are here, by place
abbrev here : FlowList → ℕ → Flow
here l k = get_or l.list k zero_flow

pub returns : goal.returns
returns c =
    let site = c.args.site in
    let flows = c.args.flows.now in
    c.decide.ensures ∙ (ap (λ (l : FlowList). answer_in site (here l) (length flows)) c.gather-l.ensures ∙ list-answer site flows)
