-- Where a valid table exists the search finds a plan (`valid-plan`), so "none exists" is right (`none_right`): the search never leaves the way on which all
-- that is placed is reserved in that table, before it has a plan. Assumes nothing.
use mathlib.Core.Path.{◌≡◌, refl, sym, ap, ◌∙◌, subst}
use mathlib.Core.Bool.{true, false, false≢true}
use Rattle.laws.specs.Choice.{pick}
use mathlib.Core.List.{List, [], ◌∷◌}
use mathlib.Core.Logic.{⊎_elim}
use Prim.Native.Nat.{ℕ, suc, ◌<◌}
use native.Mathlib.Omega.{arith}
use lib.Dec.{eqb}
use borrow.Author.Tests.{eq-eqb, ne_eqb}
use Rattle.laws.specs.Sum.{bit}
use Rattle.theory.specs.Net.{Net, Reserved, Valid}
use Rattle.laws.proofs.Choice.{cases}
use Rattle.tries.specs.Search.{Spot, spot_at, reserved_by, taken_by, End, plan_found, none_exists, after_tries, or_next, look_at, onward, seek, open_list}
use Rattle.tries.specs.Search.{fragments, search_of}
use Rattle.tries.proofs.Lists.{times, hits, Sorted, more, fragments-sorted, fragments-times, Upwards, step, opens-rising, opens-hits, spots-cases}
use Rattle.tries.proofs.Lists.{taken-some, onward-cases, past_of}

data Found : End → Type 0 where
  found : {qs : List Spot} {n : ℕ} → Found (plan_found qs n)

found_after : {r : End} (m : ℕ) → Found r → Found (after_tries m r)
unfolding after_tries
found_after m found = found

found_first : {a : End} (b : End) → Found a → Found (or_next a b)
unfolding or_next
found_first b found = found

found-second : (a : End) {b : End} → Found b → Found (or_next a b)
unfolding or_next
found-second (plan_found qs n) h = found
found-second (none_exists n) h = found_after n h

found-plan : {r : End} → Found r → (qs : List Spot) × (n : ℕ) × (r ≡ plan_found qs n)
found-plan (found {qs} {n}) = (qs, n, refl)

module _ (s : Net) (res : Reserved) (v : Valid s res) where
  -- what is placed is reserved in the valid table
  abbrev Within : List Spot → Type 0
  Within qs = (i k : ℕ) → reserved_by qs i k ≡ true → res i k ≡ true

  -- the cells past c still have all their fragments to come
  abbrev Later : ℕ → List ℕ → Type 0
  Later c fs = (j : ℕ) → c < j → j < s.cells → times j fs ≡ hits (res j) (open_list s)

  unheld : (qs : List Spot) (c p : ℕ) → Within qs → c < s.cells → p < s.width → res c p ≡ true → taken_by s.clash qs c p ≡ false
  unheld qs c p w l m h =
      ⊎_elim (λ e. let x = taken-some s.clash qs c p e in absurd (v.apart x.0 c p x.1 l m x.2 (w x.0 p x.3) h)) (λ e. e)
      (cases (taken_by s.clash qs c p))

  within-put : (qs : List Spot) (c p : ℕ) → Within qs → res c p ≡ true → Within (spot_at c p ∷ qs)
  within-put qs c p w h i k m =
      ⊎_elim (λ u. subst (λ z. res z k ≡ true) (sym u.0) (subst (λ z. res c z ≡ true) (sym u.1) h)) (w i k) (spots-cases c p qs i k m)

  look-whole : (next : List ℕ → List Spot → End) (c m : ℕ) (qs : List Spot) → c < s.cells → Within qs
      → ((p : ℕ) (ps : List ℕ) → res c p ≡ true → Upwards s (suc p) ps → m ≡ hits (res c) ps → Found (next ps (spot_at c p ∷ qs))) → (b : ℕ)
      (ps : List ℕ) → Upwards s b ps
      → suc m ≡ hits (res c) ps → Found (look_at s.clash next c qs ps)
  unfolding look_at hits
  look-whole next c m qs l w go b [] r e = absurd (omega arith)
  look-whole next c m qs l w go b (p ∷ ps) (step x y u r) e =
      found_after 1
      (⊎_elim
      (λ h. rw (unheld qs c p w l y h)
      (found_first (look_at s.clash next c qs ps) (go p ps h r (let z : bit (res c p) ≡ 1 = ap bit h in omega arith))))
      (λ h.
      found-second (pick (taken_by s.clash qs c p) (none_exists 0) (next ps (spot_at c p ∷ qs)))
      (look-whole next c m qs l w go (suc p) ps r (let z : bit (res c p) ≡ 0 = ap bit h in omega arith)))
      (cases (res c p)))

  seek-whole : (c : ℕ) (cs : List ℕ) → c < s.cells → Sorted s.cells c cs → (qs : List Spot) → Within qs → Later c (c ∷ cs) → (b : ℕ) (ps : List ℕ)
      → Upwards s b ps → times c (c ∷ cs) ≡ hits (res c) ps → Found (seek s.clash (open_list s) (c ∷ cs) qs ps)
  unfolding seek times
  seek-whole c [] l so qs w late b ps r e =
      let one : bit (eqb c c) ≡ 1 = ap bit (eq-eqb c c refl) in
      look-whole (λ rs ss. seek s.clash (open_list s) [] ss (onward (open_list s) c [] rs)) c 0 qs l w (λ p rest h _ m. found) b ps r (omega arith)
  seek-whole c (d ∷ ds) l (more x y so) qs w late b ps r e =
      let one : bit (eqb c c) ≡ 1 = ap bit (eq-eqb c c refl) in
      look-whole (λ rs ss. seek s.clash (open_list s) (d ∷ ds) ss (onward (open_list s) c (d ∷ ds) rs)) c (times c (d ∷ ds)) qs l w
      (λ p rest h ri m.
      let rest-late : Later d (d ∷ ds) =
      λ j g k. (let z : bit (eqb j c) ≡ 0 = ap bit (ne_eqb j c (λ q. omega arith)) in omega (arith, late j (omega arith) k)) in
      onward-cases (λ z. Found (seek s.clash (open_list s) (d ∷ ds) (spot_at c p ∷ qs) z)) (open_list s) c d ds rest
      (λ q.
      seek-whole d ds y so (spot_at c p ∷ qs) (within-put qs c p w h) rest-late (suc p) rest ri
      (subst (λ z. times z (d ∷ ds) ≡ hits (res z) rest) (sym q) m))
      (λ q.
      let g : c < d = past_of c d x q in
      let z : bit (eqb d c) ≡ 0 = ap bit (ne_eqb d c q) in
      seek-whole d ds y so (spot_at c p ∷ qs) (within-put qs c p w h) rest-late 0 (open_list s) (opens-rising s) (omega (arith, late d g y))))
      b ps r (omega arith)

  all-hits : (i : ℕ) → i < s.cells → times i (fragments s) ≡ hits (res i) (open_list s)
  all-hits i l = fragments-times s i l ∙ sym (v.exact i l) ∙ sym (opens-hits s (res i) (λ k m. v.allowed i k l m))

  search-whole : (fs : List ℕ) → fs ≡ fragments s → Sorted s.cells 0 fs → Found (seek s.clash (open_list s) fs [] (open_list s))
  unfolding seek reserved_by
  search-whole [] e so = found
  search-whole (c ∷ cs) e (more l m so) =
      seek-whole c cs m so [] (λ i k x. absurd (false≢true x)) (λ j _ k. ap (times j) e ∙ all-hits j k) 0 (open_list s) (opens-rising s)
      (ap (times c) e ∙ all-hits c m)

  pub valid-plan : (qs : List Spot) × (n : ℕ) × (search_of s ≡ plan_found qs n)
  valid-plan = found-plan (search-whole (fragments s) refl (fragments-sorted s))

-- W13: "none exists" is right
pub none_right : (s : Net) (n : ℕ) → search_of s ≡ none_exists n → (res : Reserved) → Valid s res → ⊥
none_right s n e res v =
    let x = valid-plan s res v in
    let h : plan_found x.0 x.1 ≡ none_exists n = sym x.2 ∙ e in
    let z : ◌≡◌ {A = ℕ} 0 1 = cc in
    omega arith
