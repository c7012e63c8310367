-- The planner's answer depends on how many positions are usable, and not on which: what a cell has left before a position is what it has left, with
-- every position usable, after as many as were usable. So a problem that is planned is planned with as much room or more.
--     plans-roomier    of two problems with the same cells, loads and clashes, the second with as much room
-- Assumes nothing.
use mathlib.Core.Path.{◌≡◌, refl, sym, ap, ◌∙◌, fun_ext, subst}
use mathlib.Core.Bool.{Bool, true, false, ◌&&◌}
use Prim.Native.Nat.{ℕ, zero, suc, ◌+◌, ◌-◌, ◌≤◌}
use native.Mathlib.Nat.{add-zero, sub-zero}
use native.Mathlib.Numerals.{add-one}
use lib.Dec.{ltb}
use Rattle.laws.specs.Sum.{bit, sum, count}
use Rattle.theory.specs.Net.{Net, unblocked, room}
use Rattle.theory.specs.Greedy.{Plans}
use Rattle.theory.specs.Positions.{chosen, left_at}
use Rattle.theory.proofs.Positions.{run-plans}
use Rattle.theory.proofs.Wider.{resized, plans-met, plans-wider}

-- the same problem with n positions, all of them usable
abbrev flat : Net → ℕ → Net
flat s n = record { cells = s.cells; width = n; load = s.load; clash = s.clash; usable = unblocked }

module _ (s : Net) (n : ℕ) where
  -- one position more: nothing changes where it is not usable
  step : (u : Bool) (k m : ℕ) → left_at s k ≡ left_at (flat s n) m
      → (λ (i : ℕ). left_at s k i - bit (u && chosen s.clash (λ j. ltb 0 (left_at s k j)) i)) ≡ left_at (flat s n) (m + bit u)
  unfolding left_at
  step true k m e =
      ap {B = ℕ → ℕ} (λ (f : ℕ → ℕ) i. f i - bit (true && chosen s.clash (λ j. ltb 0 (f j)) i)) e ∙ sym (ap (left_at (flat s n)) (add-one m))
  step false k m e = fun_ext (λ i. sub-zero (left_at s k i)) ∙ e ∙ sym (ap (left_at (flat s n)) (add-zero m))

  left-flat : (k : ℕ) → left_at s k ≡ left_at (flat s n) (count s.usable k)
  unfolding left_at sum
  left-flat zero = refl
  left-flat (suc k) = step (s.usable k) k (count s.usable k) (left-flat k)

-- where the run plans it plans with as many positions as are usable, and the other way round
to-flat : (s : Net) → Plans s → Plans (flat s (room s))
to-flat s p =
    let t = run-plans (flat s (room s)) s.cells (λ i l. sym (ap (λ (f : ℕ → ℕ). f i) (left-flat s (room s) s.width)) ∙ plans-met s p i l) in
    (t.0, t.1)

of-flat : (s : Net) → Plans (flat s (room s)) → Plans s
of-flat s p =
    let t = run-plans s s.cells (λ i l. ap (λ (f : ℕ → ℕ). f i) (left-flat s (room s) s.width) ∙ plans-met (flat s (room s)) p i l) in
    (t.0, t.1)

pub plans-roomier : (s t : Net) → t.cells ≡ s.cells → t.load ≡ s.load → t.clash ≡ s.clash → room s ≤ room t → Plans s → Plans t
plans-roomier s t cells loads clash h p =
    let is : flat t (room t) ≡ resized (flat s (room s)) (room t) = rw (cells, loads, clash) in
    of-flat t (subst Plans (sym is) (plans-wider (flat s (room s)) (room t) (to-flat s p) h))
