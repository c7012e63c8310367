-- The definition finds the best set.
--     best-beside-is       on top of loads that pass: the answer is allowed, none is worth more, and none with the same worth has a smaller number
--     best-beside-only     there is only one such set
--     best_is, best-only     the same with the loads set aside: then the empty set always passes
--     best-split, best-cut, best-alike     for searches: in two parts, a part in which nothing is better, another test with the same verdicts
-- Assumes nothing.
use mathlib.Core.Path.{◌≡◌, refl, sym, ap, subst, ◌∙◌, fun_ext}
use mathlib.Core.Bool.{Bool, true, false, ◌&&◌, true≢false}
use mathlib.Core.Logic.{⊎_elim, ◌↔◌}
use Prim.Native.Nat.{ℕ, zero, suc, ◌+◌, ◌-◌, ◌^◌, ◌≤◌, ◌<◌}
use native.Mathlib.Omega.{arith}
use native.Mathlib.Nat.{eq-or-lt_of_le}
use lib.Pow.{pow_pos}
use lib.Dec.{ltb, eqb}
use borrow.Author.Tests.{ltb-true, ltb-false, lt-ltb, le-ltb}
use Rattle.laws.specs.Choice.{pick}
use Rattle.laws.proofs.Choice.{cases}
use Rattle.theory.specs.Net.{Net, loaded, LoadTest}
use Rattle.theory.specs.Verdict.{LoadVerdict, holds, over, load_verdict}
use Rattle.theory.proofs.LoadLaws.{load-holds}
use Rattle.admitting.specs.Best.{Flows, worth, beside, idle, laden, passes, allowed_beside, allowed, better, best_of, best_beside, best, BestBeside, Best}
use Rattle.admitting.proofs.Sets.{total-none}

-- ---- over any test and any worth

no-at : (t : Bool) (x b p q : ℕ) → (t ≡ true → q ≤ p) → pick (t && ltb p q) x b ≡ b
no-at true x b p q h = rw (le-ltb p q (h refl)) refl
no-at false x b p q h = refl

module _ (ok : ℕ → Bool) (w : ℕ → ℕ) where
  -- b is the best of the sets below x
  pub record Leads (x b : ℕ) : Type 0 where
    pub before : b ≤ x - 1
    pub good : ok b ≡ true
    pub most : (y : ℕ) → y < x → ok y ≡ true → w y ≤ w b
    pub least : (y : ℕ) → y < x → ok y ≡ true → w y ≡ w b → b ≤ y

  -- whether x is taken
  better-yes : (x b : ℕ) → ok x ≡ true → w b < w x → better ok w x b ≡ x
  better-yes x b e l = rw (e, lt-ltb (w b) (w x) l) refl

  better-no : (x b : ℕ) → (ok x ≡ true → w x ≤ w b) → better ok w x b ≡ b
  better-no x b h = no-at (ok x) x b (w b) (w x) h

  -- x taken
  takes : (x b : ℕ) → Leads x b → ok x ≡ true → w b < w x → Leads (suc x) x
  takes x b l e g = record {
    before = omega arith;
    good = e;
    most = λ y h o. ⊎_elim (λ q. rw q (omega arith)) (λ q. omega (arith, l.most y q o)) (eq-or-lt_of_le (up y h));
    least = λ y h o same. ⊎_elim (λ q. omega arith) (λ q. omega (arith, l.most y q o)) (eq-or-lt_of_le (up y h));
  }
    where
      up : (y : ℕ) → y < suc x → y ≤ x
      up y h = omega arith

  -- x left
  leaves : (x b : ℕ) → Leads x b → (ok x ≡ true → w x ≤ w b) → Leads (suc x) b
  leaves x b l g = record {
    before = omega (arith, l.before);
    good = l.good;
    most = λ y h o. ⊎_elim (λ q. rw q (g (rw q at o))) (λ q. l.most y q o) (eq-or-lt_of_le (up y h));
    least = λ y h o same. ⊎_elim (λ q. omega (arith, l.before)) (λ q. l.least y q o same) (eq-or-lt_of_le (up y h));
  }
    where
      up : (y : ℕ) → y < suc x → y ≤ x
      up y h = omega arith

  step : (x b : ℕ) → Leads x b → Leads (suc x) (better ok w x b)
  step x b l =
      ⊎_elim
      (λ e. ⊎_elim
      (λ t. rw (better-yes x b e (ltb-true _ _ t)) (takes x b l e (ltb-true _ _ t)))
      (λ t. rw (better-no x b (λ _. ltb-false _ _ t)) (leaves x b l (λ _. ltb-false _ _ t)))
      (cases (ltb (w b) (w x))))
      (λ e. rw (better-no x b (λ o. absurd (true≢false (sym o ∙ e)))) (leaves x b l (λ o. absurd (true≢false (sym o ∙ e)))))
      (cases (ok x))

  pub best-leads : (m x b : ℕ) → Leads x b → Leads (x + m) (best_of ok w m x b)
  unfolding best_of
  best-leads zero x b l = let e : x + 0 ≡ x = omega arith in rw e l
  best-leads (suc m) x b l = let e : x + suc m ≡ suc x + m = omega arith in rw e (best-leads m (suc x) (better ok w x b) (step x b l))

  -- the m sets from x on, and then n more
  pub best-split : (m n x b : ℕ) → best_of ok w (m + n) x b ≡ best_of ok w n (x + m) (best_of ok w m x b)
  unfolding best_of
  best-split zero n x b = let e : 0 + n ≡ n = omega arith in let z : x + 0 ≡ x = omega arith in rw (e, z) refl
  best-split (suc m) n x b =
      let e : suc m + n ≡ suc (m + n) = omega arith in
      let z : x + suc m ≡ suc x + m = omega arith in
      rw (e, z) (best-split m n (suc x) (better ok w x b))

  -- where nothing is better, nothing changes
  pub best-cut : (m x b : ℕ) → ((y : ℕ) → y < m → ok (x + y) ≡ true → w (x + y) ≤ w b) → best_of ok w m x b ≡ b
  unfolding best_of
  best-cut zero x b h = refl
  best-cut (suc m) x b h =
      let z : x + 0 ≡ x = omega arith in
      let same : better ok w x b ≡ b = better-no x b (rw z at (h 0 (omega arith))) in
      rw same (best-cut m (suc x) b (λ y l. let e : suc x + y ≡ x + suc y = omega arith in rw e (h (suc y) (omega arith))))

-- the same verdicts and worths give the same best set
pub best-alike : (ok ok' : ℕ → Bool) (w w' : ℕ → ℕ) (m x b : ℕ) → ((y : ℕ) → y < x + m → ok y ≡ ok' y) → ((y : ℕ) → y < x + m → w y ≡ w' y) → b ≤ x - 1
    → 0 < x + m
    → best_of ok w m x b ≡ best_of ok' w' m x b
unfolding best_of
best-alike ok ok' w w' zero x b h g l p = refl
best-alike ok ok' w w' (suc m) x b h g l p =
    let e : better ok w x b ≡ better ok' w' x b = rw (h x (omega arith), g x (omega arith), g b (omega arith)) refl in
    rw e (best-alike ok ok' w w' m (suc x) (better ok' w' x b) (λ y q. h y (omega arith)) (λ y q. g y (omega arith)) (near (ok' x && ltb (w' b) (w' x)))
    (omega arith))
  where
    near : (t : Bool) → pick t x b ≤ suc x - 1
    near true = omega arith
    near false = omega arith

-- ---- the sets of flows

pass : (v : LoadVerdict) → passes v ≡ true → v ≡ holds
pass holds e = refl
pass (over i m) e = let z : ◌≡◌ {A = ℕ} 0 1 = cc in absurd (omega arith)

pub beside-means : (s : Net) (f : Flows) (x : ℕ) → allowed_beside s f x ≡ true ↔ LoadTest (beside s f x) (loaded (beside s f x))
unfolding allowed_beside
beside-means s f x = (
  λ e. (load-holds (beside s f x) (loaded (beside s f x))).0 (pass (load_verdict (beside s f x) (loaded (beside s f x))) e),
  λ h. ap passes ((load-holds (beside s f x) (loaded (beside s f x))).1 h),
)

pub allowed-means : (s : Net) (f : Flows) (x : ℕ) → allowed s f x ≡ true ↔ LoadTest (laden s f x) (loaded (laden s f x))
allowed-means s f x = beside-means (idle s) f x

-- the empty set adds no load: it is allowed where the loads alone pass, and only there
pub none-added : (s : Net) (f : Flows) → beside s f 0 ≡ s
none-added s f =
    ap (λ (load : ℕ → ℕ). record { cells = s.cells; width = s.width; load = load; clash = s.clash; usable = s.usable })
    (fun_ext (λ i. let none = total-none (λ k. pick (eqb (f.cell k) i) (f.share k) 0) f.count in omega (arith, none)))

pub empty-beside : (s : Net) (f : Flows) → allowed_beside s f 0 ≡ true ↔ LoadTest s (loaded s)
empty-beside s f = (
  λ e. subst (λ (n : Net). LoadTest n (loaded n)) (none-added s f) ((beside-means s f 0).0 e),
  λ h. (beside-means s f 0).1 (subst (λ (n : Net). LoadTest n (loaded n)) (sym (none-added s f)) h),
)

-- where the loads are set aside no cell is loaded
pub idle-passes : (s : Net) → LoadTest (idle s) (loaded (idle s))
idle-passes s i l e = absurd (omega (arith, ltb-true 0 ((idle s).load i) e))

pub empty-allowed : (s : Net) (f : Flows) → allowed s f 0 ≡ true
empty-allowed s f = (empty-beside (idle s) f).1 (idle-passes s)

pub best-beside-is : (s : Net) (f : Flows) → LoadTest s (loaded s) → BestBeside s f (best_beside s f)
unfolding best_beside
best-beside-is s f passed =
    let start : Leads (allowed_beside s f) (worth f) 0 0 = record {
      before = omega arith;
      good = (empty-beside s f).1 passed;
      most = λ y l. absurd (omega arith);
      least = λ y l. absurd (omega arith);
    } in
    let z : 0 + 2 ^ f.count ≡ 2 ^ f.count = omega arith in
    let l : Leads (allowed_beside s f) (worth f) (2 ^ f.count) (best_of (allowed_beside s f) (worth f) (2 ^ f.count) 0 0) =
    rw z at (best-leads (allowed_beside s f) (worth f) (2 ^ f.count) 0 0 start) in record {
      inside = omega (arith, l.before, pow_pos f.count);
      passed = (beside-means s f _).0 l.good;
      most = λ y h p. l.most y h ((beside-means s f y).1 p);
      least = λ y h p. l.least y h ((beside-means s f y).1 p);
    }

pub best_is : (s : Net) (f : Flows) → Best s f (best s f)
best_is s f = best-beside-is (idle s) f (idle-passes s)

pub best-beside-only : (s : Net) (f : Flows) (x y : ℕ) → BestBeside s f x → BestBeside s f y → x ≡ y
best-beside-only s f x y p q =
    let e : worth f y ≡ worth f x = omega (arith, p.most y q.inside q.passed, q.most x p.inside p.passed) in
    omega (arith, p.least y q.inside q.passed e, q.least x p.inside p.passed (sym e))

pub best-only : (s : Net) (f : Flows) (x y : ℕ) → Best s f x → Best s f y → x ≡ y
best-only s f = best-beside-only (idle s) f
