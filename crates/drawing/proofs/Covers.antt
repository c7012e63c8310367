-- Which places a run of marks covers_place. A run that begins at a slot goes to the first slot past it that is not marked, so each slot of it is marked; and
-- from a marked slot one goes back to the beginning of its run.
--     run-marked     a slot within a run is marked
--     run-found      a marked slot is within a run
-- Assumes nothing.
use Prim.Native.Nat.{ℕ, zero, suc, ◌+◌, ◌-◌, ◌≤◌, ◌<◌}
use mathlib.Core.Path.{◌≡◌, refl, sym, ap, ◌∙◌}
use mathlib.Core.Bool.{Bool, true, false, ◌&&◌, ◌||◌, not, true≢false}
use mathlib.Core.Logic.{⊎_elim}
use native.Mathlib.Nat.{eq-or-lt_of_le}
use native.Mathlib.Omega.{arith}
use lib.Dec.{eqb}
use borrow.Author.Tests.{ne_eqb, not-true, not-false}
use Rattle.laws.specs.Search.{first}
use Rattle.laws.proofs.Choice.{at_least}
use Rattle.laws.proofs.Search.{first-least, first_passes, first-before}

module _ (p : ℕ → Bool) (n : ℕ) where
  -- a run begins here
  abbrev pub opens : ℕ → Bool
  opens k = p k && (eqb k 0 || not (p (k - 1)))

  -- the first number past it
  abbrev pub closes : ℕ → ℕ
  closes k = first (λ j. not (p j)) k n

  pub run-marked : (a k : ℕ) → a ≤ k → k < closes a → p k ≡ true
  run-marked a k l m = not-false (p k) (first-before (λ j. not (p j)) a n k l m)

  pub record Within (k : ℕ) : Type 0 where
    pub from : ℕ
    pub low : from ≤ k
    pub opened : opens from ≡ true
    pub all : (j : ℕ) → from ≤ j → j ≤ k → p j ≡ true

  run-from : (k : ℕ) → p k ≡ true → Within k
  run-from zero h = record { from = 0; low = omega arith; opened = rw h; all = λ j l m. let q : j ≡ 0 = omega arith in ap p q ∙ h }
  run-from (suc k) h = go (p k) refl (run-from k)
    where
      go : (t : Bool) → p k ≡ t → (p k ≡ true → Within k) → Within (suc k)
      go true e f =
          let w = f e in
          record {
            from = w.from;
            low = omega (arith, w.low);
            opened = w.opened;
            all = λ j l m. ⊎_elim (λ q. ap p q ∙ h) (λ q. w.all j l (omega arith)) (eq-or-lt_of_le m);
          }
      go false e f =
          let back : suc k - 1 ≡ k = omega arith in
          record {
            from = suc k;
            low = omega arith;
            opened = rw (h, ne_eqb (suc k) 0 (λ q. omega arith), back, e);
            all = λ j l m. let q : j ≡ suc k = omega arith in ap p q ∙ h;
          }

  -- a marked number is in a run, that goes past it
  pub run-found : (k : ℕ) → k < n → p k ≡ true → (a : ℕ) × (a ≤ k) × (opens a ≡ true) × (k < closes a)
  run-found k l h =
      let w = run-from k h in
      let past : k + 1 ≤ closes w.from = at_least (k + 1) (closes w.from) (λ m.
      let end : p (closes w.from) ≡ false =
      not-true (p (closes w.from)) (first_passes (λ j. not (p j)) w.from n (omega (arith, w.low)) (omega arith)) in
      true≢false (sym (w.all (closes w.from) (first-least (λ j. not (p j)) w.from n) (omega arith)) ∙ end)) in
      (w.from, w.low, w.opened, omega arith)
