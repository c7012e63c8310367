-- What `last` and `fit` mean.
--     last_found, last-missed, last-ended     a search downwards: its early return, its next turn, its last return
--     last-is, last_none      what the answer is, and what it says where it is 0
--     fit-means, means-fit      a cell is fit exactly where it is left and its clashing cells among those left clash with one another
-- Assumes nothing.
use mathlib.Core.Path.{◌≡◌, refl, sym, ◌∙◌, subst}
use mathlib.Core.Bool.{Bool, true, false, ◌&&◌, ◌||◌, not, and-eq-true_iff, true≢false, false≢true}
use mathlib.Core.List.{List}
use mathlib.Core.Logic.{⊎_elim}
use Prim.Native.Nat.{ℕ, zero, suc, ◌-◌, ◌≤◌, ◌<◌}
use native.Mathlib.Omega.{arith}
use native.Mathlib.Nat.{eq-or-lt_of_le, le_of_suc-le-suc, not-suc-le-zero}
use lib.Dec.{eqb}
use borrow.Author.Tests.{eqb-false, ne_eqb, not-true}
use Rattle.laws.specs.Sum.{any}
use Rattle.laws.proofs.Any.{any_none, none_any}
use Rattle.laws.specs.Choice.{pick}
use Rattle.laws.proofs.Choice.{not-both, second-not}
use Rattle.renumbering.specs.Numbering.{last, unnumbered, missing, odd, fit}

-- ---- last

-- a loop that looks indexAt k - 1, k - 2, .. and returns indexAt the first that passes keeps `x ≡ last p k`
pub last_found : {x : ℕ} (p : ℕ → Bool) (k : ℕ) → x ≡ last p k → 0 < k → p (k - 1) ≡ true → k ≡ x
unfolding last
last_found p zero e l h = absurd (omega arith)
last_found p (suc k) e l h =
    let m : suc k - 1 ≡ k = omega arith in
    let h' : p k ≡ true = subst (λ j. p j ≡ true) m h in
    sym (e ∙ rw h')

pub last-missed : {x : ℕ} (p : ℕ → Bool) (k : ℕ) → x ≡ last p k → 0 < k → p (k - 1) ≡ false → x ≡ last p (k - 1)
unfolding last
last-missed p zero e l h = absurd (omega arith)
last-missed p (suc k) e l h =
    let m : suc k - 1 ≡ k = omega arith in
    let h' : p k ≡ false = subst (λ j. p j ≡ false) m h in
    e ∙ rw (m, h')

pub last-ended : {x : ℕ} (p : ℕ → Bool) (k : ℕ) → x ≡ last p k → k ≤ 0 → k ≡ x
unfolding last
last-ended p zero e l = sym e
last-ended p (suc k) e l = absurd (omega arith)

-- i is the greatest below n with p
pub record Last (p : ℕ → Bool) (n i : ℕ) : Type 0 where
  pub inside : i < n
  pub has : p i ≡ true
  pub above : (k : ℕ) → i < k → k < n → p k ≡ false

last_step : (p : ℕ → Bool) (n i r : ℕ) (b : Bool) → p n ≡ b → pick b (suc n) r ≡ suc i → (r ≡ suc i → Last p n i) → Last p (suc n) i
last_step p n i r true e h f =
    let same : n ≡ i = omega arith in
    record { inside = omega arith; has = subst (λ k. p k ≡ true) same e; above = λ k l m. absurd (omega arith) }
last_step p n i r false e h f =
    let g = f h in record {
      inside = omega (arith, g.inside);
      has = g.has;
      above = λ k l m. ⊎_elim (λ q. subst (λ j. p j ≡ false) (sym q) e) (λ q. g.above k l q) (eq-or-lt_of_le (le_of_suc-le-suc m));
    }

pub last-is : (p : ℕ → Bool) (n i : ℕ) → last p n ≡ suc i → Last p n i
unfolding last
last-is p zero i h = absurd (omega arith)
last-is p (suc n) i h = last_step p n i (last p n) (p n) refl h (last-is p n i)

none-step : (p : ℕ → Bool) (n r : ℕ) (b : Bool) → p n ≡ b → pick b (suc n) r ≡ 0 → (r ≡ 0 → (k : ℕ) → k < n → p k ≡ false)
    → (k : ℕ) → k < suc n → p k ≡ false
none-step p n r true e h f k l = absurd (omega arith)
none-step p n r false e h f k l = ⊎_elim (λ q. subst (λ j. p j ≡ false) (sym q) e) (λ q. f h k q) (eq-or-lt_of_le (le_of_suc-le-suc l))

pub last_none : (p : ℕ → Bool) (n : ℕ) → last p n ≡ 0 → (k : ℕ) → k < n → p k ≡ false
unfolding last
last_none p zero h k l = absurd (not-suc-le-zero l)
last_none p (suc n) h k l = none-step p n (last p n) (p n) refl h (λ g j m. last_none p n g j m) k l

-- ---- fit

module _ (clash : ℕ → ℕ → Bool) (n : ℕ) (new : List ℕ) (i : ℕ) where
  -- of those unnumbered, a clashes with i
  pub record Near (a : ℕ) : Type 0 where
    pub inside : a < n
    pub free : unnumbered new a ≡ true
    pub met : clash i a ≡ true

  -- what the test of a cell says in words
  pub record Fit : Type 0 where
    pub free : unnumbered new i ≡ true
    pub clique : (a b : ℕ) → (a ≡ b → ⊥) → Near a → Near b → clash a b ≡ true

  no_third : (x y z : Bool) → x ≡ true → y ≡ false → (x && not (y || z)) ≡ false → z ≡ true
  no_third true false true p q h = refl
  no_third true false false p q h = absurd (true≢false h)
  no_third true true z p q h = absurd (true≢false q)
  no_third false y z p q h = absurd (false≢true p)

  pub fit-means : fit clash n new i ≡ true → Fit
  unfolding fit odd missing
  fit-means h =
      let both = (and-eq-true_iff (unnumbered new i) (not (any (odd clash n new i) n))).0 h in
      let none = any_none (odd clash n new i) n (not-true _ both.1) in record {
        free = both.0;
        clique = λ a b ne x y.
            let near : (unnumbered new a && clash i a) ≡ true = (and-eq-true_iff (unnumbered new a) (clash i a)).1 (x.free, x.met) in
            let near' : (unnumbered new b && clash i b) ≡ true = (and-eq-true_iff (unnumbered new b) (clash i b)).1 (y.free, y.met) in
            let some = second-not (unnumbered new a && clash i a) (any (missing clash n new i a) n) (none a x.inside) near in
            no_third (unnumbered new b && clash i b) (eqb a b) (clash a b) near' (ne_eqb a b ne) (any_none (missing clash n new i a) n some b y.inside);
      }

  quiet : (x y z : Bool) → (x ≡ true → y ≡ false → z ≡ true) → (x && not (y || z)) ≡ false
  quiet true true z f = refl
  quiet true false true f = refl
  quiet true false false f = sym (f refl refl)
  quiet false y z f = refl

  pub means-fit : Fit → fit clash n new i ≡ true
  unfolding fit odd missing
  means-fit f =
      let none : any (odd clash n new i) n ≡ false = none_any (odd clash n new i) n (λ a l.
      not-both (unnumbered new a && clash i a) (any (missing clash n new i a) n) (λ h. none_any (missing clash n new i a) n (λ b m.
      quiet (unnumbered new b && clash i b) (eqb a b) (clash a b) (λ g e.
      let x = (and-eq-true_iff (unnumbered new a) (clash i a)).0 h in
      let y = (and-eq-true_iff (unnumbered new b) (clash i b)).0 g in
      f.clique a b (eqb-false a b e) (record { inside = l; free = x.0; met = x.1 }) (record { inside = m; free = y.0; met = y.1 }))))) in
      rw (none, f.free)
