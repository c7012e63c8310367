-- Cell i's row as a part of a table. Assumes nothing.
use mathlib.Core.Path.{◌≡◌, sym, ap, ◌∙◌}
use mathlib.Core.Bool.{true, false, ◌&&◌}
use mathlib.Core.Logic.{⊎_elim}
use mathlib.Core.List.{List}
use Prim.Native.Nat.{ℕ, ◌+◌, ◌-◌, ◌*◌, ◌≤◌}
use native.Mathlib.Omega.{arith}
use borrow.Rule.Slice.PartMut.{mid_of}
use lib.Dec.{ltb}
use lib.ListN.{length, get_or-eq_default}
use borrow.Author.Tests.{ltb-true, ltb-false}
use Rattle.laws.specs.Part.{part}
use Rattle.laws.proofs.Choice.{cases}
use Rattle.laws.proofs.Part.{length_part, get_d_part}
use Rattle.theory.specs.Greedy.{sends, reserved}
use Rattle.packing.specs.Packed.{in_row}
use Rattle.sets.specs.Pack.{in_cell}

-- cell i's row is a part of the table
pub cell_row-law : (n i : ℕ) (t : List ℕ) → i * n + n ≤ length t → (k : ℕ) → in_row (mid_of (i * n) (i * n + n - i * n) t) k ≡ in_cell n t i k
unfolding part
cell_row-law n i t h k =
    ⊎_elim
    (λ (g : ltb k n ≡ true).
    ap sends (get_d_part (i * n) (i * n + n - i * n) t k 0 (omega (arith, ltb-true k n g))) ∙ sym (ap (λ b. b && reserved n t i k) g))
    (λ (g : ltb k n ≡ false).
    ap sends (get_or-eq_default (mid_of (i * n) (i * n + n - i * n) t) 0
    (omega (arith, length_part (i * n) (i * n + n - i * n) t (omega arith), ltb-false k n g)))
    ∙ sym (ap (λ b. b && reserved n t i k) g))
    (cases (ltb k n))
