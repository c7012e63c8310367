-- The verdict on the class is `in_class` exactly where the site is in the class;
-- and where it names three cells, they split it and are the first in rising order of i, then a, then b.
-- Assumes nothing.
use mathlib.Core.Path.{◌≡◌, refl, sym, ◌∙◌}
use mathlib.Core.Bool.{Bool, true, false, ◌&&◌, not, true≢false}
use mathlib.Core.Logic.{◌↔◌, ⊎_elim}
use Prim.Native.Nat.{ℕ, ◌+◌, ◌≤◌, ◌<◌, zero-le}
use native.Mathlib.Omega.{arith}
use lib.Dec.{ltb}
use borrow.Author.Tests.{ltb-true, ltb-false, lt-ltb, not-true}
use Rattle.laws.specs.Choice.{pick}
use Rattle.laws.specs.Search.{first}
use Rattle.laws.proofs.Choice.{cases, refute, both, went-second, rising, at_least}
use Rattle.laws.proofs.Search.{first-least, first_passes, first-before}
use Rattle.theory.specs.Net.{Net, Class}
use Rattle.theory.specs.Named.{NoEarlier, Splits, FirstSplits}
use Rattle.theory.specs.Verdict.{in_class, outside, near_to, second, splits, split_of, first_split, class_verdict}

module _ (s : Net) (who : ℕ → Bool) where
  -- the test for b
  abbrev apart : ℕ → ℕ → ℕ → Bool
  apart i a b = near_to s who i b && not (s.clash a b)

  -- b is no lower than the first that is found for i and a
  second-before : (a b i : ℕ) → Splits s who a b i → second s who i a ≤ b
  unfolding second
  second-before a b i h =
      let yes : apart i a b ≡ true = rw (h.who_b, h.other, h.far) in
      at_least (second s who i a) b (λ l. true≢false (sym yes ∙ first-before (apart i a) (a + 1) i b (omega (arith, h.ab)) l))

  second-hit : (i a : ℕ) → a < i → second s who i a < i → (a < second s who i a) × (apart i a (second s who i a) ≡ true)
  unfolding second
  second-hit i a l h =
      let low : a + 1 ≤ second s who i a = first-least (apart i a) (a + 1) i in
      (omega arith, first_passes (apart i a) (a + 1) i (omega arith) h)

  pair-splits : (a b i : ℕ) → Splits s who a b i → splits s who i a ≡ true
  unfolding splits
  pair-splits a b i h =
      let near : second s who i a < i = omega (arith, second-before a b i h, h.bi) in
      rw (h.who_a, h.one, lt-ltb (second s who i a) i near)

  splits-pair : (a i : ℕ) → a < i → i < s.cells → who i ≡ true → splits s who i a ≡ true → Splits s who a (second s who i a) i
  unfolding splits
  splits-pair a i l m w e =
      let b = second s who i a in
      let x = both (near_to s who i a) (ltb b i) e in
      let y = both (who a) (s.clash a i) x.0 in
      let low : b < i = ltb-true _ _ x.1 in
      let g = second-hit i a l low in
      let z = both (near_to s who i b) (not (s.clash a b)) g.1 in
      let v = both (who b) (s.clash b i) z.0 in
      record { ab = g.0; bi = low; inside = m; who_a = y.0; who_b = v.0; who_i = w; one = y.1; other = v.1; far = not-true _ z.1 }

  -- a is no lower than the first that is found for i
  split-before : (a b i : ℕ) → Splits s who a b i → split_of s who i ≤ a
  unfolding split_of
  split-before a b i h =
      rw h.who_i
      (at_least (first (splits s who i) 0 i) a (λ l. true≢false (sym (pair-splits a b i h) ∙ first-before (splits s who i) 0 i a zero-le l)))

  first-split : (a b i : ℕ) → Splits s who a b i → first_split s who ≤ i
  unfolding first_split
  first-split a b i h =
      at_least (first_split s who) i
      (λ l.
      true≢false (sym (lt-ltb (split_of s who i) i (omega (arith, split-before a b i h, h.ab, h.bi)))
      ∙ first-before (λ i. ltb (split_of s who i) i) 0 s.cells i zero-le l))

  -- a cell for which a is found counts, and a splits it
  split-hit : (i : ℕ) → split_of s who i < i → (who i ≡ true) × (splits s who i (split_of s who i) ≡ true)
  unfolding split_of
  split-hit i l =
      ⊎_elim
      (λ e.
      let m : first (splits s who i) 0 i < i = rw e at l in
      (e, rw e (first_passes (splits s who i) 0 i zero-le m)))
      (λ e. absurd (let m : i < i = rw e at l in omega arith)) (cases (who i))

  -- what the judge finds splits
  found : first_split s who < s.cells
      → Splits s who (split_of s who (first_split s who)) (second s who (first_split s who) (split_of s who (first_split s who))) (first_split s who)
  unfolding first_split
  found l =
      let i = first_split s who in
      let m : split_of s who i < i = ltb-true _ _ (first_passes (λ i. ltb (split_of s who i) i) 0 s.cells zero-le l) in
      let h = split-hit i m in
      splits-pair (split_of s who i) i m l h.0 h.1

  pub class-holds : class_verdict s who ≡ in_class ↔ Class s who
  unfolding class_verdict
  class-holds = (
    λ e a b i l m n pa pb pi ca cb.
        let none : s.cells ≤ first_split s who =
        ltb-false _ _ (went-second (ltb (first_split s who) s.cells) _ _ (λ q. let z : ◌≡◌ {A = ℕ} 0 1 = cc in omega arith) e) in
        ⊎_elim (λ t. t)
        (λ f.
        absurd (omega (
          arith,
          first-split a b i (record { ab = l; bi = m; inside = n; who_a = pa; who_b = pb; who_i = pi; one = ca; other = cb; far = f }),
        )))
        (cases (s.clash a b)),
    λ h.
        let none : ltb (first_split s who) s.cells ≡ false =
        refute _ (λ e. let b = found (ltb-true _ _ e) in true≢false
        (sym (h _ _ _ b.ab b.bi b.inside b.who_a b.who_b b.who_i b.one b.other) ∙ b.far)) in
        rw none,
  )

  named : (a b i : ℕ) (t : Bool) (x y z : ℕ) → pick t (outside x y z) in_class ≡ outside a b i → (t ≡ true) × (x ≡ a) × (y ≡ b) × (z ≡ i)
  named a b i true x y z e = (refl, cc, cc, cc)
  named a b i false x y z e = let w : ◌≡◌ {A = ℕ} 0 1 = cc in absurd (omega arith)

  after : (x y z : ℕ) → Splits s who x y z
      → NoEarlier (first_split s who) (split_of s who (first_split s who)) (second s who (first_split s who) (split_of s who (first_split s who))) z x y
  after x y z h =
      rising (first_split s who) z (first-split x y z h)
      (λ e. rw e
      (rising (split_of s who z) x (split-before x y z h)
      (λ f. rw f (second-before x y z h))))

  pub class-names : (a b i : ℕ) → class_verdict s who ≡ outside a b i → FirstSplits s who a b i
  unfolding class_verdict
  class-names a b i e =
      let n = named a b i (ltb (first_split s who) s.cells) _ _ _ e in
      rw (← n.1, ← n.2, ← n.3) (record { shows = found (ltb-true _ _ n.0); earliest = after })
