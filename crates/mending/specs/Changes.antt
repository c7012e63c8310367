-- W7: "a list of changes by cell, then position: what it was, what it is, reservation or silence". Four numbers a change: the cell, the position, what it was,
-- what it is. Cells go from 1, positions from 0; a reservation is 1, silence 0.
use Rattle.std.specs.Prelude.{Bool, not, List, [], ◌∷◌, ◌++◌, ℕ, zero, suc, ◌+◌, ◌-◌, ◌*◌, set}
use Rattle.laws.specs.Choice.{pick}
use Rattle.laws.specs.Sum.{bit, sum, count}
use Rattle.theory.specs.Net.{Reserved}

-- whether one of the two is a reservation and the other silence: what is now, and what was
abbrev pub differ : Bool → Bool → Bool
differ is was = pick was (not is) is

-- a change of cell i at position k, in four numbers
abbrev pub change_entry : Bool → Bool → ℕ → ℕ → List ℕ
change_entry is was i k = (i + 1) ∷ k ∷ bit was ∷ bit is ∷ []

-- and nothing where there is none
abbrev pub change : Bool → Bool → ℕ → ℕ → List ℕ
change is was i k = pick (differ is was) (change_entry is was i k) []

-- what is reserved now, and what was before
module _ (is was : Reserved) where
  abbrev pub changed : ℕ → ℕ → Bool
  changed i k = differ (is i k) (was i k)

  -- the changes of cell i below position k, in rising position
  unfoldable pub cell_changes : ℕ → ℕ → List ℕ
  cell_changes i zero = []
  cell_changes i (suc k) = cell_changes i k ++ change (is i k) (was i k) i k

  -- those of the cells below c, with n positions each, "by cell, then position"
  unfoldable pub changes : ℕ → ℕ → List ℕ
  changes n zero = []
  changes n (suc c) = changes n c ++ cell_changes c n

  -- how many they are
  abbrev pub change_count : ℕ → ℕ → ℕ
  change_count n c = sum (λ i. count (changed i) n) c

-- what a fitter does with the list: each change's last number, stored at its cell and position of a table of rows of n
unfoldable pub follow : ℕ → List ℕ → List ℕ → List ℕ
follow n [] u = u
follow n (c ∷ []) u = u
follow n (c ∷ k ∷ []) u = u
follow n (c ∷ k ∷ w ∷ []) u = u
follow n (c ∷ k ∷ w ∷ x ∷ l) u = follow n l (set u ((c - 1) * n + k) x)
