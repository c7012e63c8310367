-- W10's promises, over any problem whose clash is symmetric.
--     numbers-renumber     the two arrays are a renumbering: each undoes the other
--     numbers-past         and hold 0 past the cells
--     numbered-class       in new numbers the problem is in W9's class, whichever cells count, whatever the loads
--     stuck-none           where the numbering is stuck, no renumbering index_at all puts the problem in the class whatever the loads
--     none_stuck           and the other way round: "exactly when none does"
--     valid-back           a table that is valid in new numbers, its rows put back index_at their old numbers, is valid for the old problem
--     valid-forth          and the other way round
-- Assumes nothing.
use mathlib.Core.Path.{◌≡◌, refl, sym, ap, ap₂, ◌∙◌}
use mathlib.Core.Bool.{Bool, true}
use mathlib.Core.List.{List}
use Prim.Native.Nat.{ℕ, zero, suc, ◌≤◌, ◌<◌}
use native.Mathlib.Omega.{arith}
use native.Mathlib.Nat.{le_refl}
use lib.ListN.{length, get_or, length-replicate}
use borrow.Author.Tests.{eq-eqb}
use Rattle.laws.specs.Sum.{bit, sum, count}
use Rattle.theory.specs.Net.{Net, Reserved, Valid, Class}
use Rattle.theory.proofs.Exact.{apart-any}
use Rattle.renumbering.specs.Numbering.{unnumbered, Numbering, numbered, stuck, blank, numbering, index_at}
use Rattle.renumbering.specs.Renumbers.{Renumbers, renumbered, with_loads, AlwaysClass, Symmetric}
use Rattle.renumbering.proofs.Given.{Told, told, unstuck}

count-all : (p : ℕ → Bool) (n : ℕ) → ((k : ℕ) → k < n → p k ≡ true) → count p n ≡ n
unfolding sum
count-all p zero h = refl
count-all p (suc n) h = let e : bit (p n) ≡ 1 = ap bit (h n (le_refl (suc n))) in omega (arith, count-all p n (λ k l. h k (omega arith)))

pub blank-at : (size i : ℕ) → get_or (blank size) i 0 ≡ 0
blank-at zero i = refl
blank-at (suc size) zero = refl
blank-at (suc size) (suc i) = blank-at size i

pub all_left : (size n : ℕ) → n ≤ size → count (unnumbered (blank size)) n ≡ n
all_left size n h = count-all (unnumbered (blank size)) n (λ k l. eq-eqb _ 0 (blank-at size k))

pub blank-long : (size n : ℕ) → n ≤ size → n ≤ length (blank size)
blank-long size n fits = rw (length-replicate {A = ℕ} size 0) fits

module _ (s : Net) (symmetric : Symmetric s.clash) (size : ℕ) (fits : s.cells ≤ size) where
  long : s.cells ≤ length (blank size)
  long = blank-long size s.cells fits

  module _ (new old : List ℕ) (found : numbering size s.clash s.cells ≡ numbered new old) where
    facts : Told s.clash s.cells s.cells (blank size) (blank size) new old
    unfolding numbering
    facts =
        told s.clash s.cells symmetric s.cells (blank size) (blank size) new old (le_refl s.cells) long long
        (all_left size s.cells fits) found

    pub numbers-renumber : Renumbers s.cells (index_at new) (index_at old)
    numbers-renumber = record {
      new_in = λ i l. let f = facts.all i l (blank-at size i) in omega (arith, f.1.0, f.1.1.there);
      old_in = λ a l. let f = facts.below a l in omega (arith, f.1.0, f.1.2.back);
      new_old = λ a l.
          let f = facts.below a l in
          let e : index_at old a ≡ f.0 = omega (arith, f.1.2.back) in
          rw e (omega (arith, f.1.2.there));
      old_new = λ i l.
          let f = facts.all i l (blank-at size i) in
          let e : index_at new i ≡ f.0 = omega (arith, f.1.1.there) in
          rw e (omega (arith, f.1.1.back));
    }

    -- every number is above 0
    pub numbers-above : (i : ℕ) → i < s.cells → (0 < get_or new i 0) × (0 < get_or old i 0)
    numbers-above i l = let f = facts.all i l (blank-at size i) in let g = facts.below i l in (omega (arith, f.1.1.there), omega (arith, g.1.2.back))

    pub numbers-past : (i : ℕ) → s.cells ≤ i → (get_or new i 0 ≡ 0) × (get_or old i 0 ≡ 0)
    numbers-past i l = (facts.past i l ∙ blank-at size i, facts.above i l ∙ blank-at size i)

    pub numbered-class : (l : ℕ → ℕ) (who : ℕ → Bool) → Class (with_loads l (renumbered (index_at old) s)) who
    numbered-class l who a b i m n in-i pa pb pi ca cb = facts.class a b i m n in-i ca cb

    pub numbered-always : AlwaysClass (renumbered (index_at old) s)
    numbered-always l a b i m n in-i pa pb pi ca cb = facts.class a b i m n in-i ca cb

  -- a renumbering into the class, in terms of old indices
  by_old : (new old : ℕ → ℕ) → Renumbers s.cells new old → AlwaysClass (renumbered old s) → (x y z : ℕ) → x < s.cells → y < s.cells → z < s.cells
      → new x < new y → new y < new z → s.clash x z ≡ true → s.clash y z ≡ true → s.clash x y ≡ true
  by_old new old r class x y z lx ly lz p q a b =
      let ex = r.old_new x lx in
      let ey = r.old_new y ly in
      let ez = r.old_new z lz in
      sym (ap₂ s.clash ex ey)
      ∙ class (λ _. 1) (new x) (new y) (new z) p q (r.new_in z lz) refl refl refl (ap₂ s.clash ex ez ∙ a) (ap₂ s.clash ey ez ∙ b)

  pub stuck-none : numbering size s.clash s.cells ≡ stuck → (new old : ℕ → ℕ) → Renumbers s.cells new old → AlwaysClass (renumbered old s) → ⊥
  unfolding numbering
  stuck-none e new old r class =
      unstuck s.clash s.cells symmetric new old r (by_old new old r class) s.cells (blank size) (blank size) long
      (all_left size s.cells fits) e

  pub none_stuck : ((new old : ℕ → ℕ) → Renumbers s.cells new old → AlwaysClass (renumbered old s) → ⊥) → numbering size s.clash s.cells ≡ stuck
  none_stuck h = go (numbering size s.clash s.cells) refl
    where
      go : (r : Numbering) → numbering size s.clash s.cells ≡ r → r ≡ stuck
      go stuck e = refl
      go (numbered new old) e = absurd (h (index_at new) (index_at old) (numbers-renumber new old e) (numbered-always new old e))

-- ---- tables along a renumbering

module _ (s : Net) (symmetric : Symmetric s.clash) (new old : ℕ → ℕ) (r : Renumbers s.cells new old) (res : Reserved) where
  pub valid-back : Valid (renumbered old s) res → Valid s (λ i k. res (new i) k)
  valid-back v = record {
    apart = λ a c k l m w h p q.
        apart-any (renumbered old s) res v (λ x y. symmetric (old x) (old y)) (new a) (new c) k
        (λ e. let same : a ≡ c = sym (r.old_new a (omega arith)) ∙ ap old e ∙ r.old_new c m in omega arith)
        (r.new_in a (omega arith)) (r.new_in c m) w (ap₂ s.clash (r.old_new a (omega arith)) (r.old_new c m) ∙ h) p q;
    exact = λ i l. v.exact (new i) (r.new_in i l) ∙ ap s.load (r.old_new i l);
    allowed = λ i k l w h. v.allowed (new i) k (r.new_in i l) w h;
  }

  pub valid-forth : Valid s res → Valid (renumbered old s) (λ a k. res (old a) k)
  valid-forth v = record {
    apart = λ a c k l m w h p q.
        apart-any s res v symmetric (old a) (old c) k
        (λ e. let same : a ≡ c = sym (r.new_old a (omega arith)) ∙ ap new e ∙ r.new_old c m in omega arith)
        (r.old_in a (omega arith)) (r.old_in c m) w h p q;
    exact = λ a l. v.exact (old a) (r.old_in a l);
    allowed = λ a k l w h. v.allowed (old a) k (r.old_in a l) w h;
  }
