-- Laws for a program's loop: what one turn of `give_numbers` does, indexAt m - 1 as a program counts. Assumes nothing.
use mathlib.Core.Path.{◌≡◌, refl}
use mathlib.Core.Bool.{Bool}
use mathlib.Core.List.{List}
use Prim.Native.Nat.{ℕ, zero, suc, ◌-◌, ◌≤◌, ◌<◌}
use native.Mathlib.Omega.{arith}
use lib.ListN.{set}
use Rattle.renumbering.specs.Numbering.{last, fit, numbered, stuck, give_numbers}
use Rattle.renumbering.proofs.Fit.{last-is}

last_within : (p : ℕ → Bool) (n h : ℕ) → last p n ≡ h → h ≤ n
last_within p n zero e = omega arith
last_within p n (suc i) e = (last-is p n i e).inside

pub last-most : (p : ℕ → Bool) (n : ℕ) → last p n ≤ n
last-most p n = last_within p n (last p n) refl

module _ (clash : ℕ → ℕ → Bool) (n : ℕ) where
  pub give-end : (m : ℕ) (new old : List ℕ) → m ≤ 0 → give_numbers clash n m new old ≡ numbered new old
  unfolding give_numbers
  give-end zero new old l = refl
  give-end (suc m) new old l = absurd (omega arith)

  pub give-none : (m : ℕ) (new old : List ℕ) → 0 < m → last (fit clash n new) n ≡ 0 → give_numbers clash n m new old ≡ stuck
  unfolding give_numbers
  give-none zero new old l e = absurd (omega arith)
  give-none (suc m) new old l e = rw e

  pub give-next : (m : ℕ) (new old : List ℕ) (h : ℕ) → 0 < m → 0 < h → last (fit clash n new) n ≡ h
      → give_numbers clash n m new old ≡ give_numbers clash n (m - 1) (set new (h - 1) m) (set old (m - 1) h)
  unfolding give_numbers
  give-next zero new old h l g e = absurd (omega arith)
  give-next (suc m) new old zero l g e = absurd (omega arith)
  give-next (suc m) new old (suc i) l g e =
      let a : suc m - 1 ≡ m = omega arith in
      let b : suc i - 1 ≡ i = omega arith in
      rw (e, a, b)
