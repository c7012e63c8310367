-- A row in which some positions are barred while it is filled: they hold 4, which is not idle, and are made idle again at the end.
use Rattle.std.specs.Prelude.{Bool, List, [], ◌∷◌, ℕ, suc, ◌%◌, eqb}
use Rattle.laws.specs.Choice.{pick}

-- the row from position k on, with 4 at each idle position that is not usable
unfoldable pub bar_row : (ℕ → Bool) → ℕ → List ℕ → List ℕ
bar_row usable k [] = []
bar_row usable k (b ∷ bs) = pick (usable k) b (pick (eqb b 0) 4 b) ∷ bar_row usable (suc k) bs

-- the row with idle bytes for those
unfoldable pub lifted : List ℕ → List ℕ
lifted [] = []
lifted (b ∷ bs) = (b % 4) ∷ lifted bs
