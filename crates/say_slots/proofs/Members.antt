-- From member to member of a word: what lies between two of them is not in it, so nothing is met there. Assumes nothing.
use Prim.Native.Nat.{ℕ, ◌≤◌, ◌<◌}
use mathlib.Core.Path.{◌≡◌, ◌∙◌}
use mathlib.Core.Bool.{Bool, true, false, ◌&&◌, and-false}
use Rattle.laws.specs.Bits.{bit_at}
use Rattle.laws.specs.Search.{first}
use Rattle.laws.specs.Sum.{any}
use Rattle.laws.proofs.Any.{any-skip}
use Rattle.laws.proofs.Search.{first-most, first-least, first-before, first_passes}

module _ (p : ℕ → Bool) (row cells : ℕ) where
  -- whether the cell is met and in the row
  abbrev pub in_row : ℕ → Bool
  in_row c = p c && bit_at row c

  pub none-between : (from : ℕ) → from ≤ cells → any in_row from ≡ false
      → (first (bit_at row) from cells ≤ cells)
      × (any in_row (first (bit_at row) from cells) ≡ false)
      × (first (bit_at row) from cells < cells → bit_at row (first (bit_at row) from cells) ≡ true)
  none-between from l e = let c = first (bit_at row) from cells in (
    first-most (bit_at row) from cells l,
    any-skip in_row from c (first-least (bit_at row) from cells)
        (λ j g m. rw (first-before (bit_at row) from cells j g m) (and-false (p j)))
        ∙ e,
    λ m. first_passes (bit_at row) from cells l m,
  )
