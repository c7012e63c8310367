-- `putblocks::put_blocked` meets its contract: what is left of the items, stored from here on, gives the whole. Assumes nothing.
use Rattle.std.proofs.Common.{ℕ, ◌+◌, ◌-◌, ◌<◌, ◌≡◌, refl, sym, ap, Bool, ◌||◌, List, ◌++◌, length, ltb, arith}
use Rattle.text.proofs.Writing.{Writing, begun, said, room, stored, ended}
use Rattle.putblocks.specs.Canon.{side_for, runs_from, slot_word, slots_end, slots_from, blocked_items}
use Rattle.putblocks.specs.Loop.{more_text}
use Rattle.putblocks.proofs.Texts.{more-list, slots-none, slots_next, no-slots}
use Rattle.putblocks.proofs.put_blocked.Goals as goal

-- the runs of the slots from t to u are next, where the runs of i such are put; they end at q
next-slots : {out₀ whole out : List ℕ} {at₀ : ℕ} (b : Bool) (words : List ℕ) (slots channels t i u x p q : ℕ) → i < slots → t < slots
    → u ≡ slots_end words slots channels t → x ≡ slot_word words channels t
    → let runs = runs_from channels (side_for slots (t + 1) u) channels x 0 in
    q ≡ p + length (more_text b runs) → Writing out₀ at₀ whole out p (more_text b (slots_from (slots - i) words slots channels t))
    → Writing out₀ at₀ whole out p (more_text b runs ++ more_text (b || ltb p q) (slots_from (slots - (i + 1)) words slots channels u))
next-slots b words slots channels t i u x p q more h is-u is_x e w =
    said (slots_next b words slots channels (slots - (i + 1)) (slots - i) t (omega arith) h u x p q is-u is_x e) w

pub loop-init : goal.loop-init
loop-init c = let a = c.args in
    let e : a.slots - 0 ≡ a.slots = omega arith in
    rw e (said (sym (more-list (blocked_items a.set.now a.slots a.channels))) (begun _ _ _))

pub returns-then-slots-t : goal.returns-then-slots-t
returns-then-slots-t c = let a = c.args in
    let l = c.loop in
    let w = ended (said (slots-none l.begun a.set.now a.slots a.channels (a.slots - (l.counter + 1)) (a.slots - l.counter) l.t (omega arith) (omega arith))
    l.invariant) in record { stored = w.0; next = w.1 }

pub put_runs-q-requires : goal.put_runs-q-requires
put_runs-q-requires c = let a = c.args in
    let l = c.loop in (
      omega arith,
      room _ _ (next-slots l.begun a.set.now a.slots a.channels l.t l.counter c.slots_end-u.result c.slot_word-x.result l.p _ (omega arith) (omega arith)
          c.slots_end-u.ensures c.slot_word-x.ensures refl l.invariant) c.requires.2,
    )

pub loop-preserved : goal.loop-preserved
loop-preserved c = let a = c.args in
    let l = c.loop in
    let q = c.put_runs-q in
    said (ap (λ (b : Bool). more_text b (slots_from (a.slots - (l.counter + 1)) a.set.now a.slots a.channels c.slots_end-u.result))
    (sym c.begun_by-begun.ensures))
    (stored _ _ (next-slots l.begun a.set.now a.slots a.channels l.t l.counter c.slots_end-u.result c.slot_word-x.result l.p q.result (omega arith)
    (omega arith) c.slots_end-u.ensures c.slot_word-x.ensures q.ensures.next l.invariant) q.ensures.stored q.ensures.next)

pub returns : goal.returns
returns c = let a = c.args in
    let l = c.loop in
    let w = ended (said (no-slots l.begun a.set.now a.slots a.channels (a.slots - l.counter) l.t (omega arith)) l.invariant) in record {
      stored = w.0;
      next = w.1;
    }
