-- The faults of a table, computed. Three cells, two positions, the second blocked; 1 and 2 clash, and 2 and 3; loads 1, 1, 0; everyone is reserved everywhere.
-- Assumes nothing.
use mathlib.Core.Path.{◌≡◌, refl}
use mathlib.Core.Bool.{true}
use mathlib.Core.List.{[], ◌∷◌}
use Prim.Native.Nat.{◌+◌, ◌-◌, ◌/◌}
use lib.Dec.{eqb}
use Rattle.laws.specs.Sum.{sum}
use Rattle.theory.specs.Net.{Net}
use Rattle.theory.specs.Verdict.{barred, clash, wrong, wrong_in}
use Rattle.faults.specs.Faults.{in_turn, barred_by, clash_by, faults}

abbrev three : Net
three = record { cells = 3; width = 2; load = λ i. 1 - i / 2; clash = λ a c. eqb c (a + 1); usable = λ k. eqb k 0 }

all-faults :
    faults three (λ i k. true)
    ≡ barred 1 0 ∷ barred 1 1 ∷ barred 1 2 ∷ clash 0 0 1 ∷ clash 0 1 2 ∷ clash 1 0 1 ∷ clash 1 1 2 ∷ wrong 0 2 ∷ wrong 1 2 ∷ wrong 2 2 ∷ []
unfolding in_turn barred_by clash_by wrong_in sum
all-faults = refl
