-- What the search's loop keeps, and what each way through its body makes of it. Assumes nothing.
use mathlib.Core.Path.{◌≡◌, sym, ap, ◌∙◌, subst}
use mathlib.Core.Bool.{Bool, true, false}
use mathlib.Core.List.{List, []}
use mathlib.Core.Logic.{⊎_elim}
use Prim.Native.Nat.{ℕ, ◌+◌, ◌-◌, ◌≤◌, ◌<◌}
use native.Mathlib.Omega.{arith}
use native.Mathlib.Nat.{le_refl}
use lib.ListN.{length, get_or, set, length-set}
use lib.Seq.{get_or-set_same, get_or-set_other}
use Rattle.laws.specs.Bits.{bit_at, bit_in}
use Rattle.laws.proofs.Choice.{order}
use Rattle.tries.specs.Search.{End, plan_found, none_exists, taken_by, after_tries, seek, limited, ended, limit_met}
use Rattle.tries.proofs.Ends.{after-zero, after-after}
use Rattle.search.specs.Hunt.{placed_of, start_of, TakenWord, Distinct}
use Rattle.search.proofs.Taken.{marks-kept, keeps_placed}
use Rattle.search.proofs.Resume.{resume, resume-start, resume-all, resume-stuck, resume-back, resume-taken, resume-more, resume-placed, start-le}
use Rattle.search.proofs.Resume.{stack_set, ends-plan, ends-full, ends-limit}

module _ (owner opens clash : List ℕ) (limit : ℕ) where
  abbrev pub whole : End
  whole = seek (bit_in clash) opens owner [] opens

  abbrev rest : List ℕ → ℕ → ℕ → End
  rest = resume (bit_in clash) owner opens

  -- what is left of the search from this stack, after the tries made, is the whole search; and each fragment's word is right
  pub record Going (at words : List ℕ) (d i tries : ℕ) : Type 0 where
    pub size : length at ≡ 24
    pub wide : length words ≡ 25
    pub depth : d ≤ length owner
    pub along : i ≤ length opens
    pub spent : tries ≤ limit
    pub stack : (k : ℕ) → k < d → get_or at k 0 < length opens
    pub marks : (k : ℕ) → k ≤ d → TakenWord clash owner at k (get_or words k 0)
    pub same : after_tries tries (resume (bit_in clash) owner opens at d i) ≡ seek (bit_in clash) opens owner [] opens

  pub going_start : (at words : List ℕ) → length at ≡ 24 → length words ≡ 25 → TakenWord clash owner at 0 (get_or words 0 0) → Going at words 0 0 0
  going_start at words h w m = record {
    size = h;
    wide = w;
    depth = omega arith;
    along = omega arith;
    spent = omega arith;
    stack = λ k l. absurd (omega arith);
    marks = λ k l. let z : k ≡ 0 = omega arith in subst (λ j. TakenWord clash owner at j (get_or words j 0)) (sym z) m;
    same = after-zero (rest at 0 0) ∙ resume-start (bit_in clash) owner opens at;
  }

  module _ (at words : List ℕ) (d i tries : ℕ) (g : Going at words d i tries) where
    stopped : i ≡ length opens → after_tries tries (rest at d (length opens)) ≡ whole
    stopped e = subst (λ k. after_tries tries (rest at d k) ≡ whole) e g.same

    pub going-back : d < length owner → i ≡ length opens → 0 < d → Going at words (d - 1) (get_or at (d - 1) 0 + 1) tries
    going-back l e h = record {
      size = g.size;
      wide = g.wide;
      depth = omega arith;
      along = omega (arith, g.stack (d - 1) (omega arith));
      spent = g.spent;
      stack = λ k m. g.stack k (omega arith);
      marks = λ k m. g.marks k (omega arith);
      same = ap (after_tries tries) (sym (resume-back (bit_in clash) owner opens at d l h)) ∙ stopped e;
    }

    pub end-full : d < length owner → i ≡ length opens → d ≡ 0 → ended (none_exists tries) ≡ limited limit whole
    end-full l e z =
        ends-full limit tries whole g.spent
        (ap (after_tries tries) (sym (resume-stuck (bit_in clash) owner opens at (omega arith)))
        ∙ subst (λ k. after_tries tries (rest at k (length opens)) ≡ whole) z (stopped e))

    pub end-plan : length owner ≤ d → ended (plan_found (placed_of owner opens at (length owner)) tries) ≡ limited limit whole
    end-plan l =
        let e : d ≡ length owner = omega (arith, g.depth) in
        ends-plan limit tries whole g.spent (placed_of owner opens at (length owner))
        (ap (after_tries tries) (sym (resume-all (bit_in clash) owner opens at i)) ∙ subst (λ k. after_tries tries (rest at k i) ≡ whole) e g.same)

    -- a try, by the fragment's word
    module _ (once : Distinct opens) (l : d < length owner) (m : i < length opens) (r : Bool) (told : r ≡ bit_at (get_or words d 0) i) where
      is : (t : Bool) → r ≡ t → taken_by (bit_in clash) (placed_of owner opens at d) (get_or owner d 0) (get_or opens i 0) ≡ t
      is t e = sym (keeps_placed (bit_in clash) owner opens at once (get_or owner d 0) i m d g.stack) ∙ sym (g.marks d (le_refl d) l i) ∙ sym told ∙ e

      pub going-taken : tries < limit → r ≡ true → Going at words d (i + 1) (tries + 1)
      going-taken n e = record {
        size = g.size;
        wide = g.wide;
        depth = g.depth;
        along = omega arith;
        spent = omega arith;
        stack = g.stack;
        marks = g.marks;
        same = sym (after-after tries 1 (rest at d (i + 1)))
            ∙ ap (after_tries tries) (sym (resume-taken (bit_in clash) owner opens at d i l m (is true e))) ∙ g.same;
      }

      pub going-placed : tries < limit → d < 24 → r ≡ false → (w : ℕ) → TakenWord clash owner (set at d i) (d + 1) w
          → Going (set at d i) (set words (d + 1) w) (d + 1) (start_of owner (d + 1) i) (tries + 1)
      going-placed n b e w new =
          let v : d < length at = omega (arith, g.size) in
          let u : d + 1 < length words = omega (arith, g.wide) in
          record {
            size = simp length-set g.size;
            wide = simp length-set g.wide;
            depth = omega arith;
            along = start-le owner (d + 1) i (length opens) m;
            spent = omega arith;
            stack = stack_set at d i (length opens) v m g.stack;
            marks = λ k y.
                ⊎_elim (λ o. rw (get_or-set_other words (d + 1) k w 0 (λ q. omega arith))
                (marks-kept clash owner at d i k (get_or words k 0) (omega arith) (g.marks k (omega arith))))
                (⊎_elim (λ o. subst (λ j. TakenWord clash owner (set at d i) j (get_or (set words (d + 1) w) j 0)) (sym o)
                (rw (get_or-set_same words (d + 1) w 0 u) new))
                (λ o. absurd (omega arith))) (order k (d + 1));
            same = sym (after-after tries 1 (rest (set at d i) (d + 1) (start_of owner (d + 1) i)))
                ∙ ap (after_tries tries) (sym (resume-placed (bit_in clash) owner opens at d i l m v (is false e))) ∙ g.same;
          }

    -- what the next fragment's word is made of
    pub going-word : TakenWord clash owner (set at d i) (d + 1 - 1) (get_or words d 0)
    going-word =
        let e : d + 1 - 1 ≡ d = omega arith in
        subst (λ k. TakenWord clash owner (set at d i) k (get_or words d 0)) (sym e)
        (marks-kept clash owner at d i d (get_or words d 0) (le_refl d) (g.marks d (le_refl d)))

    -- at the limit: whatever the position is, one try more is needed
    pub end-limit : d < length owner → i < length opens → tries ≡ limit → limit_met ≡ limited limit whole
    end-limit l m e =
        let r = resume-more (bit_in clash) owner opens at d i l m in
        ends-limit limit tries whole g.spent r.0 (ap (after_tries tries) (sym r.1) ∙ g.same) e
