-- The search from a stack: what is left of it, when fragments 0 to d - 1 stand at the indices `at`, and fragment d is about to look at index i.
--     resume-start     at first that is the whole search
--     resume-all       with every fragment placed it is a plan
--     resume-stuck, resume-back     past the last position the fragment before goes on, if there is one
--     resume-taken, resume-placed   a try
-- Assumes nothing.
use mathlib.Core.Path.{◌≡◌, refl, sym, ap, ◌∙◌, subst}
use mathlib.Core.Bool.{Bool, true, false, ◌&&◌}
use Rattle.laws.specs.Choice.{pick}
use mathlib.Core.List.{List, [], ◌∷◌}
use mathlib.Core.Logic.{⊎_elim}
use Prim.Native.Nat.{ℕ, zero, suc, ◌+◌, ◌-◌, ◌≤◌, ◌<◌}
use native.Mathlib.Omega.{arith}
use native.Mathlib.Nat.{le_refl}
use native.Mathlib.Numerals.{add-one}
use lib.Dec.{ltb, eqb}
use lib.ListN.{length, get_or, set, drop}
use lib.Seq.{drop-cons, drop-length, get_or-set_same, get_or-set_other}
use borrow.Author.Tests.{lt-ltb, le-ltb, ltb-false, ltb-true}
use Rattle.laws.proofs.Choice.{cases, order}
use Rattle.tries.specs.Search.{Spot, spot_at, taken_by, End, plan_found, none_exists, tries_of, after_tries, or_next, look_at, onward, seek, ended, limit_met}
use Rattle.tries.specs.Search.{limited}
use Rattle.tries.proofs.Ends.{after-else, else-else, else-full, full-else, tries-after}
use Rattle.search.specs.Hunt.{placed_of, start_of}

-- ---- the stack

placed-set : (owner opens at : List ℕ) (d i k : ℕ) → k ≤ d → placed_of owner opens (set at d i) k ≡ placed_of owner opens at k
unfolding placed_of
placed-set owner opens at d i zero l = refl
placed-set owner opens at d i (suc k) l =
    rw (get_or-set_other at d k i 0 (λ e. omega arith), placed-set owner opens at d i k (omega arith))

module _ (clash : ℕ → ℕ → Bool) (owner opens : List ℕ) where
  -- fragment d and those after it
  abbrev pub ahead : List ℕ → ℕ → ℕ → End
  ahead at d i = seek clash opens (drop d owner) (placed_of owner opens at d) (drop i opens)

  -- the fragments before it, if it is stuck
  unfoldable pub back : List ℕ → ℕ → End
  back at zero = none_exists 0
  back at (suc d) = or_next (ahead at d (suc (get_or at d 0))) (back at d)

  unfoldable pub resume : List ℕ → ℕ → ℕ → End
  resume at d i = or_next (ahead at d i) (back at d)

  back-set : (at : List ℕ) (d i k : ℕ) → k ≤ d → back (set at d i) k ≡ back at k
  unfolding back
  back-set at d i zero l = refl
  back-set at d i (suc k) l =
      rw (get_or-set_other at d k i 0 (λ e. omega arith), placed-set owner opens at d i k (omega arith), back-set at d i k (omega arith))

  pub resume-start : (at : List ℕ) → resume at 0 0 ≡ seek clash opens owner [] opens
  unfolding back placed_of resume
  resume-start at = else-full _

  pub resume-all : (at : List ℕ) (i : ℕ) → resume at (length owner) i ≡ plan_found (placed_of owner opens at (length owner)) 0
  unfolding seek or_next resume
  resume-all at i = rw (drop-length owner)

  stuck : (at : List ℕ) (d : ℕ) → d < length owner → ahead at d (length opens) ≡ none_exists 0
  unfolding seek look_at
  stuck at d l = rw (drop-length opens, drop-cons owner d 0)

  pub resume-stuck : (at : List ℕ) → 0 < length owner → resume at 0 (length opens) ≡ none_exists 0
  unfolding back resume
  resume-stuck at l = rw (stuck at 0 l) (full-else (none_exists 0))

  pub resume-back : (at : List ℕ) (d : ℕ) → d < length owner → 0 < d → resume at d (length opens) ≡ resume at (d - 1) (get_or at (d - 1) 0 + 1)
  unfolding back resume
  resume-back at zero l h = absurd (omega arith)
  resume-back at (suc d) l h = let e : suc d - 1 ≡ d = omega arith in rw (stuck at (suc d) l, e, add-one) (full-else _)

  -- one try
  tried : (at : List ℕ) (d i : ℕ) → d < length owner → i < length opens → (t : Bool)
      → taken_by clash (placed_of owner opens at d) (get_or owner d 0) (get_or opens i 0) ≡ t
      → ahead at d i
      ≡ after_tries 1
      (or_next
      (pick t (none_exists 0)
      (seek clash opens (drop (suc d) owner) (spot_at (get_or owner d 0) (get_or opens i 0) ∷ placed_of owner opens at d)
      (onward opens (get_or owner d 0) (drop (suc d) owner) (drop (suc i) opens))))
      (ahead at d (suc i)))
  unfolding seek look_at
  tried at d i l m t e = rw (drop-cons owner d 0, drop-cons opens i 0, e)

  pub resume-taken : (at : List ℕ) (d i : ℕ) → d < length owner → i < length opens
      → taken_by clash (placed_of owner opens at d) (get_or owner d 0) (get_or opens i 0) ≡ true → resume at d i ≡ after_tries 1 (resume at d (i + 1))
  unfolding resume
  resume-taken at d i l m e =
      rw (add-one, tried at d i l m true e) (after-else 1 _ (back at d) ∙ ap (λ z. after_tries 1 (or_next z (back at d))) (full-else (ahead at d (suc i))))

  -- either way there is a try more
  pub resume-more : (at : List ℕ) (d i : ℕ) → d < length owner → i < length opens → (r : End) × (resume at d i ≡ after_tries 1 r)
  unfolding resume
  resume-more at d i l m = (
    _,
    ap (λ z. or_next z (back at d)) (tried at d i l m (taken_by clash (placed_of owner opens at d) (get_or owner d 0) (get_or opens i 0)) refl) ∙
        after-else 1 _ (back at d),
  )

  -- the next fragment starts where the definition says
  started : (d i : ℕ) (qs : List Spot) → d < length owner
      → seek clash opens (drop (suc d) owner) qs (onward opens (get_or owner d 0) (drop (suc d) owner) (drop (suc i) opens))
      ≡ seek clash opens (drop (suc d) owner) qs (drop (start_of owner (suc d) i) opens)
  unfolding start_of seek onward
  started d i qs l =
      ⊎_elim
      (λ h.
      let m : suc d < length owner = ltb-true (suc d) (length owner) h in
      let e : suc d - 1 ≡ d = omega arith in
      rw (h, e, drop-cons owner (suc d) 0)
      (ap (seek clash opens (get_or owner (suc d) 0 ∷ drop (suc (suc d)) owner) qs) (either (eqb (get_or owner (suc d) 0) (get_or owner d 0)))))
      (λ h.
      let e : suc d ≡ length owner = omega (arith, ltb-false (suc d) (length owner) h) in
      let n : drop (suc d) owner ≡ [] = ap (λ k. drop k owner) e ∙ drop-length owner in
      rw n)
      (cases (ltb (suc d) (length owner)))
    where
      either : (t : Bool) → pick t (drop (suc i) opens) opens ≡ drop (pick t (i + 1) 0) opens
      either true = rw add-one
      either false = refl

  pub resume-placed : (at : List ℕ) (d i : ℕ) → d < length owner → i < length opens → d < length at
      → taken_by clash (placed_of owner opens at d) (get_or owner d 0) (get_or opens i 0) ≡ false
      → resume at d i ≡ after_tries 1 (resume (set at d i) (d + 1) (start_of owner (d + 1) i))
  unfolding resume back placed_of
  resume-placed at d i l m n e =
      rw (
        add-one,
        tried at d i l m false e,
        get_or-set_same at d i 0 n,
        placed-set owner opens at d i d (le_refl d),
        back-set at d i d (le_refl d),
        ← started d i (spot_at (get_or owner d 0) (get_or opens i 0) ∷ placed_of owner opens at d) l,
      )
      (after-else 1 _ (back at d) ∙ ap (after_tries 1) (else-else _ (ahead at d (suc i)) (back at d)))

-- ---- the stack's bounds

start-cond : (t : Bool) (i n : ℕ) → i < n → pick t (i + 1) 0 ≤ n
start-cond true i n l = omega arith
start-cond false i n l = omega arith

pub start-le : (owner : List ℕ) (d i n : ℕ) → i < n → start_of owner d i ≤ n
unfolding start_of
start-le owner d i n l = start-cond (ltb d (length owner) && eqb (get_or owner d 0) (get_or owner (d - 1) 0)) i n l

pub stack_set : (at : List ℕ) (d i n : ℕ) → d < length at → i < n → ((k : ℕ) → k < d → get_or at k 0 < n) → (k : ℕ) → k < d + 1
    → get_or (set at d i) k 0 < n
stack_set at d i n l m h k b =
    ⊎_elim (λ o. rw (get_or-set_other at d k i 0 (λ e. omega arith)) (h k o))
    (⊎_elim (λ o. subst (λ z. get_or (set at d i) z 0 < n) (sym o) (rw (get_or-set_same at d i 0 l) m)) (λ o. absurd (omega arith))) (order k d)

-- ---- how the search ends, when m tries were made

module _ (limit m : ℕ) (s : End) (below : m ≤ limit) where
  pub ends-plan : (qs : List Spot) → after_tries m (plan_found qs 0) ≡ s → ended (plan_found qs m) ≡ limited limit s
  unfolding after_tries
  ends-plan qs e = let z : m + 0 ≡ m = omega arith in rw (← e, z, le-ltb limit m below)

  pub ends-full : after_tries m (none_exists 0) ≡ s → ended (none_exists m) ≡ limited limit s
  unfolding after_tries
  ends-full e = let z : m + 0 ≡ m = omega arith in rw (← e, z, le-ltb limit m below)

  pub ends-limit : (r : End) → after_tries m (after_tries 1 r) ≡ s → m ≡ limit → limit_met ≡ limited limit s
  ends-limit r e h =
      let z : limit < tries_of s = omega (arith, ap tries_of (sym e), tries-after m (after_tries 1 r), tries-after 1 r) in rw (lt-ltb limit (tries_of s) z)
