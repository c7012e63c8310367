-- A walk over the numbers of a word, from the lowest up: `left` has those from k on, and a turn takes its lowest off. Assumes nothing.
--     walk-done                       nothing is left: no number from k on passes
--     walk_inside, walk_from, walk_here, walk-passed      where the lowest lies, that it passes, and that nothing before it does
--     walk-off, walk-less             what is left without it, and that this is less
use mathlib.Core.Path.{◌≡◌, sym, ap, ◌∙◌}
use mathlib.Core.Bool.{Bool, true, false, ◌&&◌}
use mathlib.Core.Logic.{⊎_elim}
use Prim.Native.Nat.{ℕ, ◌+◌, ◌-◌, ◌≤◌, ◌<◌}
use native.Mathlib.Omega.{arith}
use lib.Bits.{bit_and, and_le_r}
use lib.Count.{count_trailing_zeros}
use lib.Dec.{leb}
use borrow.Author.Tests.{le-leb, leb-true}
use Rattle.laws.specs.Bits.{bit_at, word_of}
use Rattle.laws.proofs.Bits.{none_in}
use Rattle.laws.proofs.Choice.{cases, both}
use Rattle.laws.proofs.LowestOff.{Lowest, zeros-lowest, word-off}
use Rattle.laws.proofs.Words.{word-bit, word-eq}

-- the numbers from k on that pass
abbrev pub from_on : (ℕ → Bool) → ℕ → ℕ → Bool
from_on p k j = leb k j && p j

module _ (p : ℕ → Bool) (n k left : ℕ) (is-left : left ≡ word_of (from_on p k) n) where
  pub walk-done : left ≡ 0 → (j : ℕ) → k ≤ j → j < n → p j ≡ false
  walk-done done j l h =
      ap (λ b. b && p j) (sym (le-leb k j l))
      ∙ sym (word-bit (from_on p k) n j h)
      ∙ ap (λ (x : ℕ). bit_at x j) (sym is-left ∙ done)
      ∙ none_in j

  module _ (some : left ≡ 0 → ⊥) (small : n ≤ 32) where
    lowest : Lowest (from_on p k) n (count_trailing_zeros 32 left)
    lowest = rw is-left (zeros-lowest (from_on p k) n 32 small (λ e. some (is-left ∙ e)))

    there : (leb k (count_trailing_zeros 32 left) ≡ true) × (p (count_trailing_zeros 32 left) ≡ true)
    there = both (leb k (count_trailing_zeros 32 left)) (p (count_trailing_zeros 32 left)) lowest.passes

    pub walk_inside : count_trailing_zeros 32 left < n
    walk_inside = lowest.inside

    pub walk_from : k ≤ count_trailing_zeros 32 left
    walk_from = leb-true k (count_trailing_zeros 32 left) there.0

    pub walk_here : p (count_trailing_zeros 32 left) ≡ true
    walk_here = there.1

    pub walk-passed : (j : ℕ) → k ≤ j → j < count_trailing_zeros 32 left → p j ≡ false
    walk-passed j l h = ap (λ b. b && p j) (sym (le-leb k j l)) ∙ lowest.below j h

    pub walk-off : bit_and left (left - 1) ≡ word_of (from_on p (count_trailing_zeros 32 left + 1)) n
    walk-off =
        ap (λ (x : ℕ). bit_and x (x - 1)) is-left
        ∙ word-off (from_on p k) n (count_trailing_zeros 32 left) lowest
        ∙ word-eq (λ j. leb (count_trailing_zeros 32 left + 1) j && from_on p k j) (from_on p (count_trailing_zeros 32 left + 1)) n same
      where
        same : (j : ℕ) → j < n → (leb (count_trailing_zeros 32 left + 1) j && from_on p k j) ≡ from_on p (count_trailing_zeros 32 left + 1) j
        same j h =
            ⊎_elim
            (λ e. ap (λ b. leb (count_trailing_zeros 32 left + 1) j && (b && p j))
            (le-leb k j (omega (arith, leb-true (count_trailing_zeros 32 left + 1) j e, walk_from))))
            (λ e. ap (λ b. b && from_on p k j) e ∙ sym (ap (λ b. b && p j) e))
            (cases (leb (count_trailing_zeros 32 left + 1) j))

    pub walk-less : bit_and left (left - 1) < left
    walk-less = omega (arith, and_le_r left (left - 1), some_more left some)
      where
        some_more : (x : ℕ) → (x ≡ 0 → ⊥) → 0 < x
        some_more x h = omega arith
