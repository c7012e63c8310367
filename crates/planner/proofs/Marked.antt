-- Marking looks at the rows before alone, and at no load and no usable position. Assumes nothing.
use mathlib.Core.Path.{◌≡◌, refl}
use mathlib.Core.Bool.{Bool}
use mathlib.Core.List.{List, []}
use Prim.Native.Nat.{ℕ, zero, suc, ◌*◌, ◌≤◌}
use native.Mathlib.Omega.{arith}
use lib.ListN.{length, take}
use Rattle.laws.specs.Choice.{pick}
use Rattle.laws.specs.Part.{part}
use Rattle.laws.proofs.Part.{part-take}
use Rattle.laws.proofs.Grid.{row_before}
use Rattle.theory.specs.Net.{Net, unblocked}
use Rattle.theory.specs.Greedy.{forbid, marked}
use Rattle.site.specs.Reach.{net_in}

-- only the rows before are looked at
pub marked-take : (s : Net) (i : ℕ) (t : List ℕ) → i * s.width ≤ length t → (j : ℕ) → j ≤ i → marked s (take (i * s.width) t) i j ≡ marked s t i j
unfolding marked
marked-take s i t fits zero h = refl
marked-take s i t fits (suc j) h =
    (λ x.
    pick (s.clash j i)
    (forbid (part-take (j * s.width) s.width (i * s.width) t (row_before s.width h) fits x) (marked-take s i t fits j (omega arith) x))
    (marked-take s i t fits j (omega arith) x))

-- marking looks at no load, and at no usable position
pub marked-alike : (cells n : ℕ) (loads : List ℕ) (clash : ℕ → ℕ → Bool) (usable : ℕ → Bool) (t : List ℕ) (i j : ℕ)
    → marked (net_in 0 n [] clash unblocked) t i j ≡ marked (net_in cells n loads clash usable) t i j
unfolding marked
marked-alike cells n loads clash usable t i zero = refl
marked-alike cells n loads clash usable t i (suc j) =
    (λ x.
    pick (clash j i)
    (forbid (part (j * n) n t) (marked-alike cells n loads clash usable t i j x))
    (marked-alike cells n loads clash usable t i j x))
