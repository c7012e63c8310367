-- A plan that the search finds is a valid table (`plan-valid`): what is placed stays apart, allowed and short of the loads by just the fragments to come.
-- Assumes nothing.
use mathlib.Core.Path.{◌≡◌, refl, sym, ◌∙◌, subst}
use mathlib.Core.Bool.{Bool, true, false, true≢false, false≢true}
use Rattle.laws.specs.Choice.{pick}
use mathlib.Core.List.{List, [], ◌∷◌}
use mathlib.Core.Logic.{⊎_elim}
use Prim.Native.Nat.{ℕ, suc, ◌+◌, ◌≤◌, ◌<◌}
use native.Mathlib.Omega.{arith}
use native.Mathlib.Nat.{le_refl}
use Rattle.laws.specs.Sum.{count}
use Rattle.theory.specs.Net.{Net, Valid}
use Rattle.laws.proofs.Choice.{cases}
use Rattle.laws.proofs.Sums.{sum-none}
use Rattle.tries.specs.Search.{Spot, spot_at, reserved_by, taken_by, End, plan_found, none_exists, after_tries, or_next, look_at, onward, seek, open_list}
use Rattle.tries.specs.Search.{fragments, search_of}
use Rattle.tries.proofs.Lists.{times, Sorted, more, fragments-sorted, fragments-times, Upwards, step, opens-rising, spots-cases, count-spots}
use Rattle.tries.proofs.Lists.{taken_none, onward-cases, past_of}

-- P holds of the plan, if there is one
data Holds (P : List Spot → Type 0) : End → Type 0 where
  planned : {qs : List Spot} {n : ℕ} → P qs → Holds P (plan_found qs n)
  unplanned : {n : ℕ} → Holds P (none_exists n)

holds_after : {P : List Spot → Type 0} {r : End} (m : ℕ) → Holds P r → Holds P (after_tries m r)
unfolding after_tries
holds_after m (planned h) = planned h
holds_after m unplanned = unplanned

holds-else : {P : List Spot → Type 0} {a b : End} → Holds P a → Holds P b → Holds P (or_next a b)
unfolding or_next
holds-else (planned h) g = planned h
holds-else {b = b} (unplanned {n = n}) g = holds_after n g

holds-pick : {P : List Spot → Type 0} (t : Bool) (a : End) → (t ≡ false → Holds P a) → Holds P (pick t (none_exists 0) a)
holds-pick true a h = unplanned
holds-pick false a h = h refl

holds-plan : {P : List Spot → Type 0} {qs : List Spot} {n : ℕ} → Holds P (plan_found qs n) → P qs
holds-plan (planned h) = h

-- qs is placed, and the fragments fs are still to come
record Placed (s : Net) (qs : List Spot) (fs : List ℕ) : Type 0 where
  apart : (a c k : ℕ) → a < c → s.clash a c ≡ true → reserved_by qs a k ≡ true → reserved_by qs c k ≡ true → ⊥
  exact : (i : ℕ) → i < s.cells → count (reserved_by qs i) s.width + times i fs ≡ s.load i
  allowed : (i k : ℕ) → reserved_by qs i k ≡ true → s.usable k ≡ true
  inside : (i k : ℕ) → reserved_by qs i k ≡ true → (i < s.cells) × (k < s.width)

-- cells past c hold nothing yet, and c itself only positions below b
abbrev Ahead : ℕ → ℕ → List Spot → Type 0
Ahead c b qs = (i k : ℕ) → c ≤ i → reserved_by qs i k ≡ true → (i ≡ c) × (k < b)

-- a fragment of cell c at p
module _ (s : Net) (qs : List Spot) (c : ℕ) (cs : List ℕ) (b p : ℕ) (h : Placed s qs (c ∷ cs)) (ahead : Ahead c b qs)
    (below : c < s.cells) (past : b ≤ p) (inside : p < s.width) (usable : s.usable p ≡ true) (free : taken_by s.clash qs c p ≡ false) where
  fresh : reserved_by qs c p ≡ false
  fresh = ⊎_elim (λ e. absurd (omega (arith, (ahead c p (le_refl c) e).1))) (λ e. e) (cases (reserved_by qs c p))

  put-placed : Placed s (spot_at c p ∷ qs) cs
  unfolding times
  put-placed = record {
    apart = λ a d k l e x y.
        ⊎_elim
        (λ u. ⊎_elim (λ v. omega arith) (λ v. let z : d ≡ c = (ahead d k (omega arith) v).0 in omega arith) (spots-cases c p qs d k y))
        (λ u. ⊎_elim (λ v. clear a d k l e u v.0 v.1) (λ v. h.apart a d k l e u v) (spots-cases c p qs d k y))
        (spots-cases c p qs a k x);
    exact = λ i l. omega (arith, h.exact i l, count-spots c p qs i s.width fresh inside);
    allowed = λ i k m. ⊎_elim (λ u. subst (λ z. s.usable z ≡ true) (sym u.1) usable) (h.allowed i k) (spots-cases c p qs i k m);
    inside = λ i k m. ⊎_elim (λ u. (omega arith, omega arith)) (h.inside i k) (spots-cases c p qs i k m);
  }
    where
      clear : (a d k : ℕ) → a < d → s.clash a d ≡ true → reserved_by qs a k ≡ true → d ≡ c → k ≡ p → ⊥
      clear a d k l e u v w =
          true≢false
          (sym (taken_none s.clash qs c p a (omega arith) (subst (λ z. s.clash a z ≡ true) v e) (subst (λ z. reserved_by qs a z ≡ true) w u)) ∙ free)

  put_same : Ahead c (suc p) (spot_at c p ∷ qs)
  put_same i k l m =
      ⊎_elim (λ u. (u.0, omega arith)) (λ u. ((ahead i k l u).0, omega (arith, (ahead i k l u).1))) (spots-cases c p qs i k m)

  put_next : (d : ℕ) → c < d → Ahead d 0 (spot_at c p ∷ qs)
  put_next d g i k l m =
      ⊎_elim (λ u. absurd (omega arith)) (λ u. absurd (let z : i ≡ c = (ahead i k (omega arith) u).0 in omega arith)) (spots-cases c p qs i k m)

abbrev Ends : Net → End → Type 0
Ends s = Holds (λ rs. Placed s rs [])

look-sound : (s : Net) (next : List ℕ → List Spot → End) (c : ℕ) (cs : List ℕ) (qs : List Spot) → Placed s qs (c ∷ cs)
    → ((b p : ℕ) (ps : List ℕ) → Ahead c b qs → b ≤ p → p < s.width → s.usable p ≡ true → taken_by s.clash qs c p ≡ false → Upwards s (suc p) ps
    → Ends s (next ps (spot_at c p ∷ qs)))
    → (ps : List ℕ) (b : ℕ) → Ahead c b qs → Upwards s b ps → Ends s (look_at s.clash next c qs ps)
unfolding look_at
look-sound s next c cs qs h go [] b a r = unplanned
look-sound s next c cs qs h go (p ∷ ps) b a (step l m u r) =
    holds_after 1
    (holds-else
    (holds-pick (taken_by s.clash qs c p) (next ps (spot_at c p ∷ qs)) (λ f. go b p ps a l m u f r))
    (look-sound s next c cs qs h go ps (suc p) (λ i k e w. ((a i k e w).0, omega (arith, (a i k e w).1))) r))

seek-sound : (s : Net) (c : ℕ) (cs : List ℕ) → c < s.cells → Sorted s.cells c cs → (qs : List Spot) (b : ℕ) (ps : List ℕ) → Placed s qs (c ∷ cs)
    → Ahead c b qs → Upwards s b ps → Ends s (seek s.clash (open_list s) (c ∷ cs) qs ps)
unfolding seek
seek-sound s c [] z so qs b ps h a r =
    look-sound s (λ rs ss. seek s.clash (open_list s) [] ss (onward (open_list s) c [] rs)) c [] qs h
    (λ e p rest ah l m u f _. planned (put-placed s qs c [] e p h ah z l m u f)) ps b a r
seek-sound s c (d ∷ ds) z (more l m so) qs b ps h a r =
    look-sound s (λ rs ss. seek s.clash (open_list s) (d ∷ ds) ss (onward (open_list s) c (d ∷ ds) rs)) c (d ∷ ds) qs h
    (λ e p rest ah le lw u f ri.
    let pl : Placed s (spot_at c p ∷ qs) (d ∷ ds) = put-placed s qs c (d ∷ ds) e p h ah z le lw u f in
    onward-cases (λ z. Ends s (seek s.clash (open_list s) (d ∷ ds) (spot_at c p ∷ qs) z)) (open_list s) c d ds rest
    (λ w. seek-sound s d ds m so (spot_at c p ∷ qs) (suc p) rest pl
    (subst (λ z. Ahead z (suc p) (spot_at c p ∷ qs)) (sym w) (put_same s qs c (d ∷ ds) e p h ah z le lw u f)) ri)
    (λ w. seek-sound s d ds m so (spot_at c p ∷ qs) 0 (open_list s) pl
    (put_next s qs c (d ∷ ds) e p h ah z le lw u f d (past_of c d l w)) (opens-rising s)))
    ps b a r

-- nothing is placed yet
start-placed : (s : Net) → Placed s [] (fragments s)
unfolding reserved_by
start-placed s = record {
  apart = λ a c k l e x y. false≢true x;
  exact = λ i l. omega (arith, sum-none s.width, fragments-times s i l);
  allowed = λ i k m. absurd (false≢true m);
  inside = λ i k m. absurd (false≢true m);
}

search-sound : (s : Net) (fs : List ℕ) → fs ≡ fragments s → Sorted s.cells 0 fs → Ends s (seek s.clash (open_list s) fs [] (open_list s))
unfolding seek reserved_by
search-sound s [] e so = planned (subst (λ fs. Placed s [] fs) (sym e) (start-placed s))
search-sound s (c ∷ cs) e (more l m so) =
    seek-sound s c cs m so [] 0 (open_list s) (subst (λ fs. Placed s [] fs) (sym e) (start-placed s)) (λ i k g x. absurd (false≢true x)) (opens-rising s)

ends-placed : (s : Net) (qs : List Spot) (n : ℕ) → search_of s ≡ plan_found qs n → Placed s qs []
ends-placed s qs n e = holds-plan (subst (λ r. Ends s r) e (search-sound s (fragments s) refl (fragments-sorted s)))

-- W13: a plan is right
pub plan-valid : (s : Net) (qs : List Spot) (n : ℕ) → search_of s ≡ plan_found qs n → Valid s (reserved_by qs)
unfolding times
plan-valid s qs n e =
    let h : Placed s qs [] = ends-placed s qs n e in
    record {
      apart = λ a c k l _ _. h.apart a c k l;
      exact = λ i l. omega (arith, h.exact i l);
      allowed = λ i k _ _. h.allowed i k;
    }

-- it has no cell and no position that the problem does not have
pub plan-inside : (s : Net) (qs : List Spot) (n : ℕ) → search_of s ≡ plan_found qs n → (i k : ℕ) → reserved_by qs i k ≡ true → (i < s.cells) × (k < s.width)
plan-inside s qs n e = (ends-placed s qs n e).inside
