-- `say_flows::put_flows` meets its contract: before flow k, the lines of the flows before it are put. Assumes nothing.
use Rattle.std.proofs.Common.{ℕ, ◌+◌, ◌*◌, get_or, ap, ◌∙◌, arith, get_or-take}
use Rattle.flowlist.specs.List.{zero_flow}
use Rattle.flowlist.specs.declared.Flow.{Flow}
use Rattle.phrases.proofs.Put.{put_both, put-wide, put-none}
use Rattle.say_flows.specs.Said.{flow_phrase, list_said}
use Rattle.say_flows.proofs.Flows.{list-more}
use Rattle.say_flows.proofs.put_flows.Goals as goal

pub loop-k-init : goal.loop-k-init
unfolding list_said
loop-k-init c = put-none _ _ _

pub loop-k-preserved : goal.loop-k-preserved
loop-k-preserved c = let a = c.args in
    let k = c.loop-k.k in
    let flow : ℕ → Flow = λ i. get_or a.l.list i zero_flow in
    let so_far = list_said a.slots a.set flow k in
    let same = get_or-take a.count a.l.list k zero_flow (omega arith) in
    let e = rw (c.flow_phrase.ensures ∙ ap (λ (f : Flow). flow_phrase a.slots a.set f k) same) at c.put-next.ensures in
    rw (list-more a.slots a.set flow k) (put-wide (600 * (k + 1)) (omega arith) (put_both so_far _ c.loop-k.invariant e))
