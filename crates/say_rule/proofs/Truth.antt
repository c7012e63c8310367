-- The lines of `why` about a third cell are true, and none is missing.
--     line-added     a line is said exactly of a clash that rule 2 has and rule 1 lacks
--     line-said      where two cells clash by a third cell alone, the line says so, with the lowest
--     line-true      what a line says is the case
--     clash-named    every clash under rule 2 in which neither cell reaches the other has its line
--     third-is, third-some-below      what the search finds, whoever reaches whom, and that it finds one where there is one
-- The search for the lowest third cell finds one exactly where there is one. Assumes nothing.
use Prim.Native.Nat.{ℕ, ◌+◌, ◌-◌, ◌≤◌, ◌<◌}
use mathlib.Core.Bool.{Bool, true, false, not, ◌||◌, ◌&&◌, true≢false}
use mathlib.Core.List.{List}
use mathlib.Core.Logic.{◌⊎◌, inl, inr}
use mathlib.Core.Path.{◌≡◌, refl, sym, ◌∙◌}
use native.Mathlib.Omega.{arith}
use borrow.Author.Tests.{ltb-true, lt-ltb, eqb-true, eqb-false, eq-eqb, ne_eqb, not-true}
use lib.Dec.{ltb, eqb}
use Rattle.laws.specs.Choice.{pick}
use Rattle.laws.proofs.Any.{any-first}
use Rattle.laws.proofs.Choice.{both, at_least}
use Rattle.laws.proofs.Search.{first_passes, first-before}
use Rattle.site.specs.Record.{fault_of}
use Rattle.site.specs.Reach.{reaches, reached_by_both, clash_in}
use Rattle.site.specs.Means.{UpTo, Reaches, Third, Clashing}
use Rattle.site.specs.declared.Site.{Site}
use Rattle.std.specs.Prelude.{Ok}
use Rattle.site.proofs.Accepted.{fine-reach}
use Rattle.site.proofs.Faults.{fine-sized}
use Rattle.phrases.specs.declared.Phrase.TheVariants.{Silent, Row}
use Rattle.say_rule.specs.Lines.{third_row}
use Rattle.say_rule.specs.Said.{third_of, by_third, third_phrase}
use Rattle.say_rule.specs.Means.{ByThird, LineTrue}

abbrev test : List ℕ → ℕ → ℕ → ℕ → Bool
test rows a b c = not (eqb c a) && (not (eqb c b) && (reaches rows a c && reaches rows b c))

-- ---- what rule 2 adds

-- the search finds a third cell exactly where there is one
third-some : (rows : List ℕ) (a b : ℕ) → reached_by_both rows a b ≡ ltb (third_of rows a b) 32
unfolding reached_by_both third_of
third-some rows a b = any-first (test rows a b) (test rows a b) 0 32 (omega arith) (λ c l e. (omega arith, e)) (λ c l m e. e)

pub line-added : (rows : List ℕ) (a b : ℕ) → by_third rows a b ≡ (ltb a b && (clash_in 2 rows a b && not (clash_in 1 rows a b)))
unfolding by_third clash_in
line-added rows a b = at (ltb a b) refl
  where
    only : (r s t : Bool) → (not r && (not s && t)) ≡ ((r || (s || t)) && not (r || (s || false)))
    only true s t = refl
    only false true t = refl
    only false false true = refl
    only false false false = refl

    at : (u : Bool) → ltb a b ≡ u
        → (u && (not (reaches rows a b) && (not (reaches rows b a) && ltb (third_of rows a b) 32)))
        ≡ (u && ((not (eqb a b) && (reaches rows a b || (reaches rows b a || reached_by_both rows a b)))
        && not (not (eqb a b) && (reaches rows a b || (reaches rows b a || false)))))
    at false e = refl
    at true e =
        let l : a < b = ltb-true a b e in
        rw (ne_eqb a b (λ q. omega arith), third-some rows a b) (only (reaches rows a b) (reaches rows b a) (ltb (third_of rows a b) 32))

-- ---- by the cells' numbers

back : (k : ℕ) → k + 1 - 1 ≡ k
back k = omega arith

up : (a : ℕ) → 1 ≤ a → a - 1 + 1 ≡ a
up a h = omega arith

module _ (s : Site) (fine : fault_of s ≡ Ok tt) (a b : ℕ) (first_in_holds : UpTo 32 a) (second_in_holds : UpTo 32 b) where
  abbrev third : ℕ
  third = third_of s.reach (a - 1) (b - 1)

  tested : third < 32 → test s.reach (a - 1) (b - 1) third ≡ true
  unfolding third_of
  tested l = first_passes (test s.reach (a - 1) (b - 1)) 0 32 (omega arith) l

  -- what the search finds is a third cell, and whoever reaches it is a cell of the site
  found : third < 32 → UpTo s.cells a × UpTo s.cells b × Third s a b (third + 1)
  unfolding reaches
  found l =
      let h = both (not (eqb third (a - 1))) _ (tested l) in
      let g = both (not (eqb third (b - 1))) _ h.1 in
      let r = both (reaches s.reach (a - 1) third) (reaches s.reach (b - 1) third) g.1 in
      let one = fine-reach s fine (a - 1) third (omega (arith, first_in_holds.0, first_in_holds.1)) r.0 in
      let two = fine-reach s fine (b - 1) third (omega (arith, second_in_holds.0, second_in_holds.1)) r.1 in (
        (first_in_holds.0, omega (arith, one.0)),
        (second_in_holds.0, omega (arith, two.0)),
        record {
          inside = (omega arith, omega (arith, one.1));
          not_first = λ q. eqb-false third (a - 1) (not-true _ h.0) (omega arith);
          not_second = λ q. eqb-false third (b - 1) (not-true _ g.0) (omega arith);
          by_first = rw (back third) (eqb-true _ _ r.0);
          by_second = rw (back third) (eqb-true _ _ r.1);
        },
      )

  -- a third cell passes the test
  passes : (k : ℕ) → Third s a b k → test s.reach (a - 1) (b - 1) (k - 1) ≡ true
  unfolding reaches
  passes k t =
      let n = ne_eqb (k - 1) (a - 1) (λ q. t.not_first (omega (arith, t.inside.0, first_in_holds.0))) in
      let m = ne_eqb (k - 1) (b - 1) (λ q. t.not_second (omega (arith, t.inside.0, second_in_holds.0))) in
      simp (n, m, eq-eqb _ _ t.by_first, eq-eqb _ _ t.by_second)

  -- and the search finds none after it
  least : (k : ℕ) → Third s a b k → third + 1 ≤ k
  unfolding third_of
  least k t =
      at_least _ _ (λ q.
      true≢false (sym (passes k t) ∙ first-before (test s.reach (a - 1) (b - 1)) 0 32 (k - 1) (omega arith) (omega (arith, t.inside.0))))

  few : (k : ℕ) → Third s a b k → third < 32
  few k t = omega (arith, least k t, t.inside.1, (fine-sized s fine).cells_most)

  pub third-is : third < 32 → UpTo s.cells a × UpTo s.cells b × Third s a b (third + 1) × ((k : ℕ) → Third s a b k → third + 1 ≤ k)
  third-is l = let t = found l in (t.0, t.1, t.2, least)

  pub third-some-below : (k : ℕ) → Third s a b k → third < 32
  third-some-below k t = few k t

  is_said : s.rule ≡ 2 → a < b → (Reaches s a b → ⊥) → (Reaches s b a → ⊥) → third < 32 → ByThird s a b (third + 1)
  is_said two higher forth turned l =
      let t = found l in
      record {
        ruled = two;
        rising = higher;
        clash = record { first_in_holds = t.0; second_in_holds = t.1; two = λ q. omega arith; why = inr (inr (two, (third + 1, t.2))) };
        not_forth = forth;
        not_back = turned;
        third = t.2;
        lowest = least;
      }

  said-is : (c : ℕ) → ByThird s a b c → (by_third s.reach (a - 1) (b - 1) ≡ true) × (third + 1 ≡ c)
  unfolding by_third reaches
  said-is c t =
      let l = few c t.third in
      let low : c ≤ third + 1 = t.lowest (third + 1) (found l).2 in (
        simp (lt-ltb (a - 1) (b - 1) (omega (arith, t.rising, first_in_holds.0)), ne_eqb _ _ t.not_forth, ne_eqb _ _ t.not_back, lt-ltb third 32 l),
        omega (arith, least c t.third),
      )

module _ (s : Site) (fine : fault_of s ≡ Ok tt) where
  pub line-said : (a b c : ℕ) → ByThird s a b c → third_phrase s.reach (a - 1) (b - 1) ≡ Row third_row a b c 0
  line-said a b c t =
      let most : s.cells ≤ 32 = (fine-sized s fine).cells_most in
      let i = t.clash.first_in_holds in
      let j = t.clash.second_in_holds in
      let e = said-is s fine a b (i.0, omega (arith, i.1)) (j.0, omega (arith, j.1)) c t in
      rw (e.0, e.1, up a i.0, up b j.0)

  pub line-true : s.rule ≡ 2 → (i j : ℕ) → i < 32 → j < 32 → LineTrue s (third_phrase s.reach i j)
  unfolding by_third reaches
  line-true two i j l m = at (by_third s.reach i j) refl
    where
      at : (t : Bool) → by_third s.reach i j ≡ t
          → LineTrue s (pick t (Row third_row (i + 1) (j + 1) (third_of s.reach i j + 1) 0) Silent)
      at false e = tt
      at true e =
          let h = both _ _ e in
          let g = both _ _ h.1 in
          let r = both _ _ g.1 in
          let up : i < j = ltb-true i j h.0 in (
            refl,
            rw (back i, back j) at
                (is_said s fine (i + 1) (j + 1) (omega arith, omega arith) (omega arith, omega arith) two (omega arith)
                (rw (back i, back j) (eqb-false _ _ (not-true _ g.0))) (rw (back i, back j) (eqb-false _ _ (not-true _ r.0)))
                (rw (back i, back j) (ltb-true _ 32 r.1))),
          )

  pub clash-named : s.rule ≡ 2 → (a b : ℕ) → a < b → Clashing s a b → (Reaches s a b → ⊥) → (Reaches s b a → ⊥) → (c : ℕ) × ByThird s a b c
  clash-named two a b rising clash forth turned =
      let most : s.cells ≤ 32 = (fine-sized s fine).cells_most in
      let i = clash.first_in_holds in
      let j = clash.second_in_holds in
      let p : UpTo 32 a = (i.0, omega (arith, i.1)) in
      let q : UpTo 32 b = (j.0, omega (arith, j.1)) in
      let t = neither clash.why forth turned in
      (third_of s.reach (a - 1) (b - 1) + 1, is_said s fine a b p q two rising forth turned (few s fine a b p q t.1.0 t.1.1))
    where
      neither : {A B C : Type 0} → A ⊎ (B ⊎ C) → (A → ⊥) → (B → ⊥) → C
      neither (inl x) n m = absurd (n x)
      neither (inr (inl x)) n m = absurd (m x)
      neither (inr (inr x)) n m = x
