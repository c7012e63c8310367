-- The best set depends on the first flows alone, so many as there are:
-- two lists that agree on these have the same loads in every cell and the same worths, set by set.
-- Assumes nothing.
use Prim.Native.Nat.{ℕ, ◌+◌, ◌^◌, ◌<◌}
use mathlib.Core.Path.{◌≡◌, ap, ap₂, fun_ext}
use native.Mathlib.Omega.{arith}
use lib.Dec.{eqb}
use lib.Pow.{pow_pos}
use Rattle.laws.specs.Choice.{pick}
use Rattle.theory.specs.Net.{Net, loaded}
use Rattle.theory.specs.Verdict.{load_verdict}
use Rattle.admitting.specs.Best.{Flows, worth, load_in, passes, allowed_beside, best_beside}
use Rattle.admitting.proofs.Sets.{total-eq}
use Rattle.admitting.proofs.Best.{best-alike}

module _ (s : Net) (n : ℕ) (cell cell' share share' value value' : ℕ → ℕ) (same-cell : (k : ℕ) → k < n → cell k ≡ cell' k)
    (same-share : (k : ℕ) → k < n → share k ≡ share' k) (same-value : (k : ℕ) → k < n → value k ≡ value' k) where
  abbrev one : Flows
  one = record { count = n; cell = cell; share = share; value = value }

  abbrev other : Flows
  other = record { count = n; cell = cell'; share = share'; value = value' }

  loads : (x : ℕ) → load_in one x ≡ load_in other x
  loads x =
      fun_ext
      (λ i.
      total-eq (λ k. pick (eqb (cell k) i) (share k) 0) (λ k. pick (eqb (cell' k) i) (share' k) 0) n x
      (λ k l. ap₂ (λ (a b : ℕ). pick (eqb a i) b 0) (same-cell k l) (same-share k l)))

  -- the problem with these loads on top of its own
  abbrev under : (ℕ → ℕ) → Net
  under load = record { cells = s.cells; width = s.width; load = λ i. load i + s.load i; clash = s.clash; usable = s.usable }

  same-allowed : (x : ℕ) → allowed_beside s one x ≡ allowed_beside s other x
  unfolding allowed_beside
  same-allowed x = ap (λ (load : ℕ → ℕ). passes (load_verdict (under load) (loaded (under load)))) (loads x)

  pub best-flows : best_beside s one ≡ best_beside s other
  unfolding best_beside
  best-flows =
      best-alike (allowed_beside s one) (allowed_beside s other) (worth one) (worth other) (2 ^ n) 0 0 (λ y _. same-allowed y)
      (λ y _. total-eq value value' n y same-value)
      (omega arith)
      (omega (arith, pow_pos n))
