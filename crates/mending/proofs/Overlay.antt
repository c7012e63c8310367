-- The old table, mended to what stands: byte by byte, and one index more at a time.
--     overlay-length, overlay-at, overlay-past
--     overlay-reserved    it reserves what stands
--     overlay-more        one index more
-- Assumes nothing.
use mathlib.Core.Path.{◌≡◌, refl, ap, ◌∙◌}
use mathlib.Core.Bool.{Bool, true, false}
use mathlib.Core.List.{List, [], ◌∷◌}
use mathlib.Core.Logic.{⊎_elim}
use Prim.Native.Nat.{ℕ, zero, suc, ◌+◌, ◌*◌, ◌≤◌, ◌<◌}
use native.Mathlib.Omega.{arith}
use native.Mathlib.Nat.{not-suc-le-zero, le_of_suc-le-suc}
use lib.ListN.{length, get_or, take, set}
use Rattle.laws.proofs.Choice.{cases}
use Rattle.laws.proofs.Grid.{inside}
use Rattle.theory.specs.Greedy.{sends, reserved}
use Rattle.mending.specs.Mend.{mend_byte, overlay}

pub overlay-length : (t u : List ℕ) → length (overlay t u) ≡ length u
unfolding overlay
overlay-length [] u = refl
overlay-length (b ∷ t) [] = refl
overlay-length (b ∷ t) (x ∷ u) = ap suc (overlay-length t u)

pub overlay-at : (t u : List ℕ) (k : ℕ) → k < length t → k < length u → get_or (overlay t u) k 0 ≡ mend_byte (sends (get_or t k 0)) (get_or u k 0)
unfolding overlay
overlay-at [] u k h l = absurd (not-suc-le-zero h)
overlay-at (b ∷ t) [] k h l = absurd (not-suc-le-zero l)
overlay-at (b ∷ t) (x ∷ u) zero h l = refl
overlay-at (b ∷ t) (x ∷ u) (suc k) h l = overlay-at t u k (le_of_suc-le-suc h) (le_of_suc-le-suc l)

pub overlay-past : (t u : List ℕ) (k : ℕ) → length t ≤ k → get_or (overlay t u) k 0 ≡ get_or u k 0
unfolding overlay
overlay-past [] u k h = refl
overlay-past (b ∷ t) [] k h = refl
overlay-past (b ∷ t) (x ∷ u) zero h = absurd (not-suc-le-zero h)
overlay-past (b ∷ t) (x ∷ u) (suc k) h = overlay-past t u k (le_of_suc-le-suc h)

pub mended-one : (y : Bool) (x : ℕ) → sends (mend_byte y x) ≡ y
mended-one true x = refl
mended-one false x = ⊎_elim (λ (e : sends x ≡ true). rw e) (λ (e : sends x ≡ false). rw e e) (cases (sends x))

overlay-one : (t u : List ℕ) (k : ℕ) → k < length t → k < length u → sends (get_or (overlay t u) k 0) ≡ sends (get_or t k 0)
overlay-one t u k h l = ap sends (overlay-at t u k h l) ∙ mended-one (sends (get_or t k 0)) (get_or u k 0)

-- a table of n cells with w positions each
module _ (n w : ℕ) (t u : List ℕ) (size : length t ≡ n * w) (fits : n * w ≤ length u) where
  pub overlay-reserved : (i k : ℕ) → i < n → k < w → reserved w (overlay t u) i k ≡ reserved w t i k
  overlay-reserved i k l m =
      overlay-one t u (i * w + k) (omega (arith, inside n w i k l m)) (omega (arith, inside n w i k l m))

-- what stands, one index more
pub overlay-more : (t u : List ℕ) (x : ℕ) → x < length t
    → set (overlay (take x t) u) x (mend_byte (sends (get_or t x 0)) (get_or u x 0)) ≡ overlay (take (suc x) t) u
unfolding overlay
overlay-more [] u x h = absurd (not-suc-le-zero h)
overlay-more (b ∷ t) [] zero h = refl
overlay-more (b ∷ t) [] (suc x) h = refl
overlay-more (b ∷ t) (y ∷ u) zero h = refl
overlay-more (b ∷ t) (y ∷ u) (suc x) h = ap (λ z. mend_byte (sends b) y ∷ z) (overlay-more t u x (le_of_suc-le-suc h))
