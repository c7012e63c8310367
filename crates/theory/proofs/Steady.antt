-- The word is the same while the same cells are in need. A stretch is m positions such that each cell that the first takes has as many fragments left as the
-- stretch has usable positions: no cell runs out before its end, so by induction each usable position takes the first's cells,
-- and a blocked one takes none and changes nothing.
--     steady-takes, steady-left     what the positions of a stretch take, and what it leaves
-- Assumes nothing.
use mathlib.Core.Path.{◌≡◌, refl, sym, ap, ap₂, ◌∙◌}
use mathlib.Core.Bool.{Bool, true, false, ◌&&◌}
use mathlib.Core.Logic.{⊎_elim}
use Prim.Native.Nat.{ℕ, zero, suc, ◌+◌, ◌-◌, ◌≤◌, ◌<◌}
use native.Mathlib.Omega.{arith}
use native.Mathlib.Nat.{add-zero}
use lib.Dec.{ltb}
use borrow.Author.Tests.{lt-ltb}
use Rattle.laws.specs.Choice.{pick}
use Rattle.laws.specs.Sum.{bit, sum, count}
use Rattle.laws.proofs.Choice.{cases}
use Rattle.laws.proofs.Sums.{count-below}
use Rattle.theory.specs.Net.{Net}
use Rattle.theory.specs.Positions.{chosen, left_at, need_at, takes}
use Rattle.theory.proofs.Chosen.{chosen-same}
use Rattle.theory.proofs.Positions.{left-next}

-- a cell with l left that is chosen, t, keeps being in need while d is below what it has
need-stays : (t : Bool) (l d : ℕ) → (t ≡ true → d < l) → ltb 0 (l - pick t d 0) ≡ ltb 0 l
need-stays true l d h = let m : d < l = h refl in lt-ltb 0 (l - d) (omega arith) ∙ sym (lt-ltb 0 l (omega arith))
need-stays false l d h = let m : l - 0 ≡ l = omega arith in ap (ltb 0) m

take-one : (t u : Bool) (l d : ℕ) → l - pick t d 0 - bit (u && t) ≡ l - pick t (d + bit u) 0
take-one true true l d = omega arith
take-one true false l d = omega arith
take-one false true l d = omega arith
take-one false false l d = omega arith

-- how many of the d positions from k on are usable
abbrev pub open_to : Net → ℕ → ℕ → ℕ
open_to s k d = count (λ e. s.usable (k + e)) d

-- m positions from k on, and every cell below n that k chooses has a fragment left for each usable one
module _ (s : Net) (n k m : ℕ) (enough : (i : ℕ) → i < n → chosen s.clash (need_at s k) i ≡ true → open_to s k m ≤ left_at s k i) where
  abbrev word : ℕ → Bool
  word = chosen s.clash (need_at s k)

  -- what is known after d of them
  abbrev After : ℕ → Type 0
  After d = (i : ℕ) → i < n → left_at s (k + d) i ≡ left_at s k i - pick (word i) (open_to s k d) 0

  same_chosen : (d : ℕ) → d < m → s.usable (k + d) ≡ true → After d → (i : ℕ) → i < n → chosen s.clash (need_at s (k + d)) i ≡ word i
  same_chosen d l u h i b =
      chosen-same s.clash (need_at s (k + d)) (need_at s k) i
      (λ j g.
      ap (ltb 0) (h j (omega arith))
      ∙ need-stays (word j) (left_at s k j) (open_to s k d) (λ e. omega (arith, enough j (omega arith) e, count-below (λ e. s.usable (k + e)) d m l u)))

  same_takes : (d : ℕ) → d < m → After d → (i : ℕ) → i < n → takes s i (k + d) ≡ (s.usable (k + d) && word i)
  same_takes d l h i b =
      ⊎_elim
      (λ u. ap (λ t. s.usable (k + d) && t) (same_chosen d l u h i b))
      (λ u. ap (λ t. t && chosen s.clash (need_at s (k + d)) i) u ∙ sym (ap (λ t. t && word i) u))
      (cases (s.usable (k + d)))

  pub steady-left : (d : ℕ) → d ≤ m → (i : ℕ) → i < n → left_at s (k + d) i ≡ left_at s k i - pick (chosen s.clash (need_at s k) i) (open_to s k d) 0
  unfolding sum
  steady-left zero l i b = ap (λ q. left_at s q i) (add-zero k) ∙ none (word i) (left_at s k i)
    where
      none : (t : Bool) (x : ℕ) → x ≡ x - pick t 0 0
      none true x = omega arith
      none false x = omega arith
  steady-left (suc d) l i b =
      let h = steady-left d (omega arith) in
      let e : k + suc d ≡ suc (k + d) = omega arith in
      ap (λ q. left_at s q i) e
      ∙ left-next s (k + d) i
      ∙ ap₂ (λ x t. x - bit t) (h i b) (same_takes d (omega arith) h i b)
      ∙ take-one (word i) (s.usable (k + d)) (left_at s k i) (open_to s k d)

  pub steady-takes : (d : ℕ) → d < m → (i : ℕ) → i < n → takes s i (k + d) ≡ (s.usable (k + d) && chosen s.clash (need_at s k) i)
  steady-takes d l i b = same_takes d l (steady-left d (omega arith)) i b
