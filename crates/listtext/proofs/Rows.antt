-- One cell line more, and that more lines are no shorter. Assumes nothing.
use Prim.Native.Nat.{ℕ, zero, suc, ◌+◌, ◌-◌, ◌≤◌}
use mathlib.Core.Path.{◌≡◌, sym, ap, ◌∙◌}
use mathlib.Core.List.{List, ◌++◌, append-nil, append_assoc}
use native.Mathlib.Nat.{add-zero, zero-add}
use native.Mathlib.Omega.{arith}
use lib.ListN.{length, length-append}
use Rattle.theory.specs.Greedy.{row_at}
use Rattle.say_listing.specs.Lines.{cell_listed}
use Rattle.listhead.specs.Listing.{cell_lines}

-- the line of the cell at index k
abbrev line : (f w : ℕ) (t : List ℕ) (k : ℕ) → List ℕ
line f w t k = cell_listed (k + 1) f (row_at w t k)

module _ (f w : ℕ) (t : List ℕ) where
  from : (i n : ℕ) → cell_lines f w t i (suc n) ≡ cell_lines f w t i n ++ line f w t (i + n)
  unfolding cell_lines
  from i zero = append-nil (line f w t i) ∙ ap (line f w t) (sym (add-zero i))
  from i (suc n) =
      let e : i + 1 + n ≡ i + suc n = omega arith in
      ap (λ (l : List ℕ). line f w t i ++ l) (from (i + 1) n)
      ∙ sym (append_assoc (line f w t i) (cell_lines f w t (i + 1) n) (line f w t (i + 1 + n)))
      ∙ ap (λ (k : ℕ). (line f w t i ++ cell_lines f w t (i + 1) n) ++ line f w t k) e

  pub line-more : (i : ℕ) → cell_lines f w t 0 (i + 1) ≡ cell_lines f w t 0 i ++ cell_listed (i + 1) f (row_at w t i)
  line-more i =
      let e : i + 1 ≡ suc i = omega arith in
      ap (cell_lines f w t 0) e ∙ from 0 i ∙ ap (λ (k : ℕ). cell_lines f w t 0 i ++ line f w t k) (zero-add i)

  grow : (n m : ℕ) → length (cell_lines f w t 0 n) ≤ length (cell_lines f w t 0 (n + m))
  grow n zero = omega (arith, ap (λ (k : ℕ). length (cell_lines f w t 0 k)) (add-zero n))
  grow n (suc m) =
      let e : n + suc m ≡ n + m + 1 = omega arith in
      omega (
        arith,
        grow n m,
        ap (λ (k : ℕ). length (cell_lines f w t 0 k)) e,
        ap length (line-more (n + m)),
        length-append (cell_lines f w t 0 (n + m)) (cell_listed (n + m + 1) f (row_at w t (n + m))),
      )

  pub no-shorter : (n m : ℕ) → n ≤ m → length (cell_lines f w t 0 n) ≤ length (cell_lines f w t 0 m)
  no-shorter n m h =
      let e : n + (m - n) ≡ m = omega arith in
      omega (arith, grow n (m - n), ap (λ (k : ℕ). length (cell_lines f w t 0 k)) e)
