-- The north drift of the desk's page, computed: 16 channel-slots, loads 6, 5, 4, 7 and a spare cell, each clashing with the next. Assumes nothing.
use mathlib.Core.Path.{◌≡◌, refl}
use mathlib.Core.Bool.{Bool, ◌||◌}
use mathlib.Core.List.{List, [], ◌∷◌}
use Prim.Native.Nat.{ℕ, ◌+◌}
use lib.Dec.{ltb, eqb}
use lib.ListN.{get_or}
use Rattle.laws.specs.Most.{most}
use Rattle.laws.specs.Sum.{sum}
use Rattle.theory.specs.Net.{Net, unblocked}
use Rattle.theory.specs.Verdict.{most_demand}
use Rattle.roomy.specs.Room.{touched, room_left}

-- so many positions, these loads, and clash
abbrev drift : ℕ → List ℕ → (ℕ → ℕ → Bool) → Net
drift width loads clash = record { cells = 5; width = width; load = λ i. get_or loads i 0; clash = clash; usable = unblocked }

abbrev next : ℕ → ℕ → Bool
next a b = eqb (a + 1) b || eqb (b + 1) a

abbrev left : Net → List ℕ
left s = room_left s 0 ∷ room_left s 1 ∷ room_left s 2 ∷ room_left s 3 ∷ room_left s 4 ∷ []

north : left (drift 16 (6 ∷ 5 ∷ 4 ∷ 7 ∷ 0 ∷ []) next) ≡ 5 ∷ 5 ∷ 5 ∷ 5 ∷ 9 ∷ []
unfolding room_left most_demand touched most sum
north = refl

-- cell 2 carries 12: it is over, and the load test leaves nothing
full : left (drift 16 (6 ∷ 12 ∷ 4 ∷ 7 ∷ 0 ∷ []) next) ≡ 0 ∷ 0 ∷ 0 ∷ 0 ∷ 0 ∷ []
unfolding room_left most_demand touched most sum
full = refl

-- loads that differ: a cell is held by the next one, by the one before it, or by itself
uneven : left (drift 10 (1 ∷ 2 ∷ 6 ∷ 1 ∷ 9 ∷ []) next) ≡ 7 ∷ 2 ∷ 2 ∷ 0 ∷ 0 ∷ []
unfolding room_left most_demand touched most sum
uneven = refl
