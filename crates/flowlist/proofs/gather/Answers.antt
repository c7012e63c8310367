-- `flowlist::gather` meets its contract: before each turn the array holds the flows gathered so far, and each turn stores one flow more at its place;
-- after the last the array and the count are the list. Assumes nothing.
use mathlib.Core.List.{List}
use mathlib.Core.Path.{◌≡◌, refl, sym, ap, ◌∙◌}
use native.Mathlib.Nat.{le_antisymm}
use native.Mathlib.Numerals.{add-one}
use Prim.Native.Nat.{ℕ, suc, ◌+◌}
use Rattle.std.proofs.Common.{set}
use Rattle.flowlist.specs.List.{flow_at, no_flows, with_flow, gathered}
use Rattle.flowlist.proofs.Laws.{gathered-count}
use Rattle.flowlist.specs.declared.Flow.{Flow}
use Rattle.flowlist.specs.declared.FlowList.{FlowList}
use Rattle.flowlist.proofs.gather.Goals as goal

-- ---- the definition's laws
gathered-zero : (fs : List Flow) → gathered fs 0 ≡ no_flows
unfolding gathered
gathered-zero fs = refl

gathered-suc : (fs : List Flow) (n : ℕ) → gathered fs (suc n) ≡ with_flow (gathered fs n) (flow_at fs n)
unfolding gathered
gathered-suc fs n = refl

gathered_next : (fs : List Flow) (n : ℕ) → gathered fs (n + 1) ≡ with_flow (gathered fs n) (flow_at fs n)
gathered_next fs n = ap (gathered fs) (add-one n) ∙ gathered-suc fs n

-- the array's next place
one_more : (fs : List Flow) (n : ℕ) (r : Flow) → r ≡ flow_at fs n → set (gathered fs n).list n r ≡ (gathered fs (n + 1)).list
one_more fs n r e =
    ap (λ (x : Flow). set (gathered fs n).list n x) e
    ∙ (ap (λ (c : ℕ). set (gathered fs n).list c (flow_at fs n)) (sym (gathered-count fs n)) ∙ ap (λ (d : FlowList). d.list) (sym (gathered_next fs n)))

from-none : (fs : List Flow) (r : List Flow) → r ≡ no_flows.list → r ≡ (gathered fs 0).list
from-none fs r e = e ∙ ap (λ (d : FlowList). d.list) (sym (gathered-zero fs))

-- the array with its count
with-count : (fs : List Flow) (n : ℕ) → record { list = (gathered fs n).list; count = n } ≡ gathered fs n
with-count fs n = ap (λ (c : ℕ). record { list = (gathered fs n).list; count = c }) (sym (gathered-count fs n))

closing : (fs : List Flow) (k m l : ℕ) (xs : List Flow) (r : FlowList) → r ≡ record { list = xs; count = m } → xs ≡ (gathered fs k).list → k ≡ m → m ≡ l
    → r ≡ gathered fs l
closing fs k m l xs r e g h h' =
    e ∙ (ap (λ (ys : List Flow). record { list = ys; count = m }) g
    ∙ (ap (λ (j : ℕ). record { list = (gathered fs j).list; count = m }) h ∙ (with-count fs m ∙ ap (gathered fs) h')))

pub loop-i-init : goal.loop-i-init
loop-i-init c = from-none _ _ c.blank-list.ensures

pub loop-i-preserved : goal.loop-i-preserved
loop-i-preserved c =
    let flows = c.args.flows.now in
    ap (λ (xs : List Flow). set xs c.loop-i.i c.flow_at.result) c.loop-i.invariant ∙ one_more flows c.loop-i.i _ c.flow_at.ensures

pub returns : goal.returns
returns c = closing _ c.loop-i.i _ _ _ _ c.counted.ensures c.loop-i.invariant (le_antisymm c.loop-i.auto.i-end c.loop-i-test.false) c.min-n.ensures
