-- The array of the first flows holds the list's flows, place by place, and zeros past its end, as the list does: `gathered-all`.
-- Assumes nothing.
use Prim.Native.Nat.{ℕ, zero, suc, ◌≤◌, ◌<◌}
use mathlib.Core.List.{List}
use mathlib.Core.Logic.{⊎_elim}
use mathlib.Core.Path.{◌≡◌, refl, sym, ap, ◌∙◌}
use native.Mathlib.Omega.{arith}
use native.Mathlib.Nat.{eq-or-lt_of_le, le_of_suc-le-suc}
use borrow.Author.Tests.{ltb-true, ltb-false}
use lib.Dec.{ltb}
use lib.ListN.{get_or, length, length-set, length-replicate, get_or-replicate, replicate, get_or-eq_default}
use lib.Seq.{ext_get_or, get_or-set_same, get_or-set_other}
use Rattle.laws.proofs.Choice.{cases}
use Rattle.flowlist.specs.List.{zero_flow, flow_at, no_flows, gathered, few}
use Rattle.flowlist.specs.declared.Flow.{Flow}
use Rattle.flowlist.specs.declared.FlowList.{FlowList}

pub gathered-count : (fs : List Flow) (n : ℕ) → (gathered fs n).count ≡ n
unfolding gathered no_flows
gathered-count fs zero = refl
gathered-count fs (suc n) = omega (arith, gathered-count fs n)

pub gathered-long : (fs : List Flow) (n : ℕ) → length (gathered fs n).list ≡ 16
unfolding gathered no_flows
gathered-long fs zero = length-replicate {A = Flow} 16 zero_flow
gathered-long fs (suc n) = rw length-set (gathered-long fs n)

-- the flows gathered, place by place
pub gathered-at : (fs : List Flow) (n k : ℕ) → n ≤ 16 → k < n → get_or (gathered fs n).list k zero_flow ≡ flow_at fs k
unfolding gathered
gathered-at fs zero k m l = absurd (omega arith)
gathered-at fs (suc n) k m l =
    rw (gathered-count fs n)
    (⊎_elim (λ e. rw e (get_or-set_same (gathered fs n).list n (flow_at fs n) zero_flow (omega (arith, gathered-long fs n))))
    (λ q. get_or-set_other (gathered fs n).list n k (flow_at fs n) zero_flow (λ z. omega arith) ∙ gathered-at fs n k (omega arith) q)
    (eq-or-lt_of_le (le_of_suc-le-suc l)))

-- zeros after them
zeros : (n k : ℕ) → get_or (replicate n zero_flow) k zero_flow ≡ zero_flow
zeros n k =
    ⊎_elim (λ h. get_or-replicate {A = Flow} n k zero_flow zero_flow (ltb-true k n h))
    (λ h. get_or-eq_default (replicate n zero_flow) zero_flow {n = k} (omega (arith, ltb-false k n h, length-replicate {A = Flow} n zero_flow)))
    (cases (ltb k n))

gathered-past : (fs : List Flow) (n k : ℕ) → n ≤ 16 → n ≤ k → get_or (gathered fs n).list k zero_flow ≡ zero_flow
unfolding gathered no_flows
gathered-past fs zero k m l = zeros 16 k
gathered-past fs (suc n) k m l =
    rw (gathered-count fs n)
    (get_or-set_other (gathered fs n).list n k (flow_at fs n) zero_flow (λ z. omega arith) ∙ gathered-past fs n k (omega arith) (omega arith))

-- past its end a list has nothing
past_end : (fs : List Flow) (k : ℕ) → length fs ≤ k → flow_at fs k ≡ zero_flow
past_end fs k l = get_or-eq_default fs zero_flow {n = k} l

few-is : (n : ℕ) → n ≤ 16 → few n ≡ n
few-is n h = omega arith

-- of at most 16 flows all are there
pub gathered-all : (fs : List Flow) → length fs ≤ 16 → (k : ℕ) → get_or (gathered fs (few (length fs))).list k zero_flow ≡ flow_at fs k
gathered-all fs h k =
    rw (few-is (length fs) h)
    (⊎_elim (λ l. gathered-at fs (length fs) k h (ltb-true k (length fs) l))
    (λ l. gathered-past fs (length fs) k h (ltb-false k (length fs) l) ∙ sym (past_end fs k (ltb-false k (length fs) l))) (cases (ltb k (length fs))))

-- and the array tells the lists apart
pub gathered-apart : (fs gs : List Flow) → length fs ≤ 16 → gathered fs (length fs) ≡ gathered gs (length gs) → fs ≡ gs
gathered-apart fs gs few e =
    let long : length fs ≡ length gs = sym (gathered-count fs (length fs)) ∙ ap (λ (l : FlowList). l.count) e ∙ gathered-count gs (length gs) in
    ext_get_or zero_flow fs gs long
    (λ k h.
    sym (gathered-at fs (length fs) k few h)
    ∙ ap (λ (l : FlowList). get_or l.list k zero_flow) e
    ∙ gathered-at gs (length gs) k (omega arith) (omega arith))
