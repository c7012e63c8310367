-- The laws of `shortest`, by how many cells are asked: a run that no cell of a word runs out in, not empty where all of them are in need.
-- Assumes nothing.
use mathlib.Core.Path.{◌≡◌, refl, sym, ap, ◌∙◌}
use mathlib.Core.Bool.{Bool, true, false}
use mathlib.Core.Logic.{⊎_elim}
use Prim.Native.Nat.{ℕ, zero, suc, ◌≤◌, ◌<◌, min}
use native.Mathlib.Omega.{arith}
use native.Mathlib.Nat.{eq-or-lt_of_le, le_of_suc-le-suc, le_refl}
use Rattle.laws.specs.Choice.{pick}
use Rattle.stretches.specs.Stretches.{shortest}

module _ (p : ℕ → Bool) (left : ℕ → ℕ) (m : ℕ) where
  pub shortest-none : m ≡ shortest p left m 0
  unfolding shortest
  shortest-none = refl

  pub shortest-suc : (n : ℕ) → shortest p left m (suc n) ≡ pick (p n) (min (shortest p left m n) (left n)) (shortest p left m n)
  unfolding shortest
  shortest-suc n = refl

  pick-least : (t : Bool) (x l : ℕ) → pick t (min x l) x ≤ x
  pick-least true x l = omega arith
  pick-least false x l = omega arith

  pick_under : (t : Bool) (x l : ℕ) → t ≡ true → pick t (min x l) x ≤ l
  pick_under t x l e = rw e (omega arith)

  pub shortest-most : (n : ℕ) → shortest p left m n ≤ m
  shortest-most zero = omega (arith, shortest-none)
  shortest-most (suc n) = omega (arith, shortest-suc n, pick-least (p n) (shortest p left m n) (left n), shortest-most n)

  pub shortest-under : (n i : ℕ) → i < n → p i ≡ true → shortest p left m n ≤ left i
  shortest-under zero i l e = absurd (omega arith)
  shortest-under (suc n) i l e =
      ⊎_elim
      (λ q. omega (arith, ap left q, shortest-suc n, pick_under (p n) (shortest p left m n) (left n) (sym (ap p q) ∙ e)))
      (λ b. omega (arith, shortest-suc n, pick-least (p n) (shortest p left m n) (left n), shortest-under n i b e))
      (eq-or-lt_of_le (le_of_suc-le-suc l))

  pick_some : (t : Bool) (x l : ℕ) → 0 < x → (t ≡ true → 0 < l) → 0 < pick t (min x l) x
  pick_some true x l h g = let b : 0 < l = g refl in omega arith
  pick_some false x l h g = h

  pub shortest-some : (n : ℕ) → 0 < m → ((i : ℕ) → i < n → p i ≡ true → 0 < left i) → 0 < shortest p left m n
  shortest-some zero h g = omega (arith, shortest-none)
  shortest-some (suc n) h g =
      rw (shortest-suc n)
      (pick_some (p n) (shortest p left m n) (left n) (shortest-some n h (λ i l. g i (omega arith))) (g n (le_refl (suc n))))
