-- The lines of the clashes are true, and none is missing: of two cells, the lower first, a line is said exactly where they clash; it names them, says which of
-- them reaches the other, and under rule 2 the lowest third cell that both reach, exactly where there is one. By the two reaches and the search for a third.
-- Assumes nothing.
--     clash-told       what is said of two cells is the case
use Prim.Native.Nat.{ℕ, ◌+◌, ◌-◌, ◌≤◌, ◌<◌}
use mathlib.Core.Bool.{Bool, true, false}
use mathlib.Core.Logic.{◌⊎◌, inl, inr}
use mathlib.Core.Path.{◌≡◌, refl}
use native.Mathlib.Omega.{arith}
use borrow.Author.Tests.{ltb-true, ltb-false, lt-ltb, eqb-true, eqb-false, eq-eqb}
use lib.Dec.{ltb, eqb}
use Rattle.laws.specs.Choice.{pick}
use Rattle.site.specs.Record.{fault_of}
use Rattle.site.specs.Reach.{reaches}
use Rattle.site.specs.Means.{UpTo, Reaches, Third, Clashing}
use Rattle.site.specs.declared.Site.{Site}
use Rattle.std.specs.Prelude.{Ok}
use Rattle.site.proofs.Accepted.{fine-reach}
use Rattle.phrases.specs.declared.Phrase.TheVariants.{Row}
use Rattle.say_rule.specs.Said.{third_of}
use Rattle.say_rule.proofs.Truth.{third-is, third-some-below}
use Rattle.say_clashes.specs.Said.{third_under, third_way, way_phrase, clash_phrase}
use Rattle.say_clashes.specs.Means.{LowestThird, ThirdTold, ClashTold}

back : (k : ℕ) → k + 1 - 1 ≡ k
back k = omega arith

-- the third cell under the rule
under : (rule third : ℕ) (t : Bool) → eqb rule 2 ≡ t → pick t third 32 < 32 → (rule ≡ 2) × (pick t third 32 ≡ third)
under rule third true e h = (eqb-true rule 2 e, refl)
under rule third false e h = absurd (omega arith)

module _ (s : Site) (fine : fault_of s ≡ Ok tt) (i j : ℕ) (rising : i < j) (most : j < 32) where
  abbrev third : ℕ
  third = third_under s.rule s.reach i j

  forth-in : UpTo 32 (i + 1)
  forth-in = (omega arith, omega arith)

  back_in : UpTo 32 (j + 1)
  back_in = (omega arith, omega arith)

  reach-is : (x y : ℕ) → reaches s.reach x y ≡ true → Reaches s (x + 1) (y + 1)
  unfolding reaches
  reach-is x y e = rw (back x, back y) (eqb-true _ _ e)

  reach-not : (x y : ℕ) → reaches s.reach x y ≡ false → Reaches s (x + 1) (y + 1) → ⊥
  unfolding reaches
  reach-not x y e = rw (back x, back y) (eqb-false _ _ e)

  -- a third cell is named
  named : third < 32 → LowestThird s (i + 1) (j + 1) (third + 1) × UpTo s.cells (i + 1) × UpTo s.cells (j + 1)
  unfolding third_under
  named h =
      let u = under s.rule (third_of s.reach i j) (eqb s.rule 2) refl h in
      let low : third_of s.reach i j < 32 = omega (arith, u.1) in
      let t = rw (back i, back j) at (third-is s fine (i + 1) (j + 1) forth-in back_in (rw (back i, back j) low)) in
      (record { ruled = u.0; third = rw u.1 t.2; lowest = rw u.1 t.3 }, t.0, t.1)

  -- and where none is, there is none
  unnamed : 32 ≤ third → s.rule ≡ 2 → (k : ℕ) → Third s (i + 1) (j + 1) k → ⊥
  unfolding third_under
  unnamed h two k t =
      let low = rw (back i, back j) at (third-some-below s fine (i + 1) (j + 1) forth-in back_in k t) in
      let e : third ≡ third_of s.reach i j = rw (eq-eqb s.rule 2 two) in
      omega arith

  abbrev Why : Type 0
  Why = Reaches s (i + 1) (j + 1) ⊎ (Reaches s (j + 1) (i + 1) ⊎ ((s.rule ≡ 2) × ((c : ℕ) × Third s (i + 1) (j + 1) c)))

  clashing : i < s.cells → j < s.cells → Why → Clashing s (i + 1) (j + 1)
  clashing l m w = record { first_in_holds = (omega arith, omega arith); second_in_holds = (omega arith, omega arith); two = λ e. omega arith; why = w }

  by-forth : reaches s.reach i j ≡ true → Clashing s (i + 1) (j + 1)
  by-forth e = let r = fine-reach s fine i j (omega arith) e in clashing r.0 r.1 (inl (reach-is i j e))

  by-back : reaches s.reach j i ≡ true → Clashing s (i + 1) (j + 1)
  by-back e = let r = fine-reach s fine j i most e in clashing r.1 r.0 (inr (inl (reach-is j i e)))

  by-third : third < 32 → Clashing s (i + 1) (j + 1)
  by-third h =
      let n = named h in
      record { first_in_holds = n.1; second_in_holds = n.2; two = λ e. omega arith; why = inr (inr (n.0.ruled, (third + 1, n.0.third))) }

  -- with a third cell
  with-third : (f b : Bool) → reaches s.reach i j ≡ f → reaches s.reach j i ≡ b → third < 32 → ThirdTold s (third_way f b) (i + 1) (j + 1) (third + 1)
  with-third true true p q h = ((named h).0, inl (inr (inr (reach-is i j p, reach-is j i q, refl))))
  with-third true false p q h = ((named h).0, inl (inl (reach-is i j p, reach-not j i q, refl)))
  with-third false true p q h = ((named h).0, inl (inr (inl (reach-not i j p, reach-is j i q, refl))))
  with-third false false p q h = ((named h).0, inr (reach-not i j p, reach-not j i q, refl))

  -- without one
  without : (f b : Bool) → reaches s.reach i j ≡ f → reaches s.reach j i ≡ b → 32 ≤ third → ClashTold s (i + 1) (j + 1) (way_phrase f b i j)
  without true true p q h = (refl, refl, by-forth p, inr (inr (inr (reach-is i j p, reach-is j i q, refl)), unnamed h))
  without true false p q h = (refl, refl, by-forth p, inr (inl (reach-is i j p, reach-not j i q, refl), unnamed h))
  without false true p q h = (refl, refl, by-back q, inr (inr (inl (reach-not i j p, reach-is j i q, refl)), unnamed h))
  without false false p q h = λ c. neither c.why
    where
      neither : Why → ⊥
      neither (inl x) = reach-not i j p x
      neither (inr (inl x)) = reach-not j i q x
      neither (inr (inr x)) = unnamed h x.0 x.1.0 x.1.1

  pub clash-told : ClashTold s (i + 1) (j + 1) (clash_phrase s.rule s.reach i j)
  unfolding clash_phrase
  clash-told = rw (lt-ltb i j rising) (at (ltb third 32) refl)
    where
      at : (t : Bool) → ltb third 32 ≡ t
          → ClashTold s (i + 1) (j + 1)
          (pick t (Row (third_way (reaches s.reach i j) (reaches s.reach j i)) (i + 1) (j + 1) (third + 1) 0)
          (way_phrase (reaches s.reach i j) (reaches s.reach j i) i j))
      at true e = let h : third < 32 = ltb-true third 32 e in (refl, refl, by-third h, inl (with-third _ _ refl refl h))
      at false e = without _ _ refl refl (ltb-false third 32 e)
