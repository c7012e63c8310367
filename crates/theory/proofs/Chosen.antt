-- The cells that a position takes, by the number of cells that had their turn: a cell that had its turn stays as it is.
--     chosen_is       a cell is taken exactly where it is in need and clashes with no lower cell that is taken
--     chosen-needs    only cells in need are taken
--     chosen-same     the same cells in need, the same cells taken
-- Assumes nothing.
use mathlib.Core.Path.{◌≡◌, refl, sym, ap, ◌∙◌}
use mathlib.Core.Bool.{Bool, true, ◌&&◌, not}
use mathlib.Core.Logic.{⊎_elim}
use Prim.Native.Nat.{ℕ, zero, suc, ◌<◌}
use native.Mathlib.Omega.{arith}
use native.Mathlib.Nat.{eq-or-lt_of_le, le_of_suc-le-suc, le_refl}
use lib.Dec.{eqb}
use borrow.Author.Tests.{eq-eqb, ne_eqb}
use Rattle.laws.specs.Choice.{pick}
use Rattle.laws.specs.Sum.{any}
use Rattle.laws.proofs.Any.{any-eq}
use Rattle.laws.proofs.Choice.{both}
use Rattle.theory.specs.Positions.{chosen_to, chosen}

module _ (clash : ℕ → ℕ → Bool) (need : ℕ → Bool) where
  -- cell n's turn
  abbrev turn : ℕ → Bool
  turn n = need n && not (any (λ m. clash m n && chosen_to clash need n m) n)

  chosen-step : (n j : ℕ) → chosen_to clash need (suc n) j ≡ pick (eqb j n) (turn n) (chosen_to clash need n j)
  unfolding chosen_to
  chosen-step n j = refl

  chosen-turn : (i : ℕ) → chosen clash need i ≡ turn i
  chosen-turn i = rw (chosen-step i i, eq-eqb i i refl)

  -- a cell that had its turn stays as it is
  chosen-stays : (n j : ℕ) → j < n → chosen_to clash need n j ≡ chosen clash need j
  chosen-stays zero j h = absurd (omega arith)
  chosen-stays (suc n) j h =
      ⊎_elim
      (λ e. ap (λ x. chosen_to clash need (suc x) j) (sym e))
      (λ m. chosen-step n j ∙ ap (λ t. pick t (turn n) (chosen_to clash need n j)) (ne_eqb j n (λ e. omega arith)) ∙ chosen-stays n j m)
      (eq-or-lt_of_le (le_of_suc-le-suc h))

  pub chosen_is : (i : ℕ) → chosen clash need i ≡ (need i && not (any (λ m. clash m i && chosen clash need m) i))
  chosen_is i =
      chosen-turn i
      ∙ ap (λ t. need i && not t)
      (any-eq (λ m. clash m i && chosen_to clash need i m) (λ m. clash m i && chosen clash need m) i
      (λ m h. ap (λ t. clash m i && t) (chosen-stays i m h)))

  pub chosen-needs : (i : ℕ) → chosen clash need i ≡ true → need i ≡ true
  chosen-needs i e = (both (need i) _ (sym (chosen-turn i) ∙ e)).0

  chosen-same-to : (need' : ℕ → Bool) (n : ℕ) → ((j : ℕ) → j < n → need j ≡ need' j) → (j : ℕ) → chosen_to clash need n j ≡ chosen_to clash need' n j
  unfolding chosen_to
  chosen-same-to need' zero h j = refl
  chosen-same-to need' (suc n) h j =
      let ih = chosen-same-to need' n (λ j l. h j (omega arith)) in
      rw (
        h n (le_refl (suc n)),
        ih j,
        any-eq (λ m. clash m n && chosen_to clash need n m) (λ m. clash m n && chosen_to clash need' n m) n (λ m l. ap (λ t. clash m n && t) (ih m)),
      )

  pub chosen-same : (need' : ℕ → Bool) (i : ℕ) → ((j : ℕ) → j < suc i → need j ≡ need' j) → chosen clash need i ≡ chosen clash need' i
  chosen-same need' i h = chosen-same-to need' (suc i) h i
