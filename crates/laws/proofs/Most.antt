-- Laws of `most`: it is at least each of the numbers, and one of them or 0; so it is at most x exactly where each of them is. Assumes nothing.
use mathlib.Core.Path.{◌≡◌, refl}
use mathlib.Core.Bool.{Bool, true, false}
use mathlib.Core.Logic.{◌⊎◌, inl, inr, ⊎_elim, ◌↔◌}
use Prim.Native.Nat.{ℕ, zero, suc, ◌+◌, ◌≤◌, ◌<◌}
use native.Mathlib.Omega.{arith}
use native.Mathlib.Numerals.{add-one}
use native.Mathlib.Nat.{eq-or-lt_of_le, le_of_suc-le-suc}
use lib.Dec.{ltb}
use borrow.Author.Tests.{ltb-true, ltb-false}
use Rattle.laws.specs.Choice.{pick}
use Rattle.laws.specs.Most.{greater, most}

greater-at : (a b : ℕ) (t : Bool) → ltb a b ≡ t → (a ≤ pick t b a) × (b ≤ pick t b a)
greater-at a b true q = let h = ltb-true a b q in (omega arith, omega arith)
greater-at a b false q = let h = ltb-false a b q in (omega arith, omega arith)

-- at least each of the two
pub greater-most : (a b : ℕ) → (a ≤ greater a b) × (b ≤ greater a b)
greater-most a b = greater-at a b (ltb a b) refl

-- and no more than both
pub greater-within : (a b x : ℕ) → a ≤ x → b ≤ x → greater a b ≤ x
greater-within a b x p q = at (ltb a b)
  where
    at : (t : Bool) → pick t b a ≤ x
    at true = q
    at false = p

-- one number more, as a program counts
pub most-more : (f : ℕ → ℕ) (n : ℕ) → most f (n + 1) ≡ greater (most f n) (f n)
unfolding most
most-more f n = rw add-one

pub most-above : (f : ℕ → ℕ) (n k : ℕ) → k < n → f k ≤ most f n
unfolding most
most-above f zero k h = absurd (omega arith)
most-above f (suc n) k h =
    let g = greater-most (most f n) (f n) in
    ⊎_elim (λ (e : suc k ≡ suc n). let s : k ≡ n = omega arith in rw s g.1)
    (λ l. omega (arith, most-above f n k (le_of_suc-le-suc l)))
    (eq-or-lt_of_le h)

picked : (f : ℕ → ℕ) (n x : ℕ) (t : Bool) → ((k : ℕ) × (k < n) × (x ≡ f k)) ⊎ (x ≡ 0)
    → ((k : ℕ) × (k < suc n) × (pick t (f n) x ≡ f k)) ⊎ (pick t (f n) x ≡ 0)
picked f n x true h = inl (n, omega arith, refl)
picked f n x false h = ⊎_elim (λ w. let l = w.1 in inl (w.0, omega arith, w.2)) inr h

-- it is one of them, or 0
pub most-one : (f : ℕ → ℕ) (n : ℕ) → ((k : ℕ) × (k < n) × (most f n ≡ f k)) ⊎ (most f n ≡ 0)
unfolding most
most-one f zero = inr refl
most-one f (suc n) = picked f n (most f n) (ltb (most f n) (f n)) (most-one f n)

-- it is at most x exactly where each of them is
pub most-within : (f : ℕ → ℕ) (n x : ℕ) → most f n ≤ x ↔ ((k : ℕ) → k < n → f k ≤ x)
most-within f n x = (
  λ h k l. omega (arith, most-above f n k l),
  λ h. ⊎_elim (λ w. let l = h w.0 w.1 in let e = w.2 in omega arith) (λ z. omega arith) (most-one f n),
)

-- two rules that agree on the range have the same greatest
pub most-same : (f g : ℕ → ℕ) (n : ℕ) → ((k : ℕ) → k < n → f k ≡ g k) → most f n ≡ most g n
unfolding most
most-same f g zero h = refl
most-same f g (suc n) h = rw (most-same f g n (λ k l. h k (omega arith)), h n (omega arith))
