-- W7's mender: "For each cell in rising number: keep its reservations in rising position where no kept or added reservation of an earlier clashing cell stands,
-- until the load is met; drop the rest; then add the lowest free positions until it is met."
-- Keeping and adding are one rule for `run`, which gives a cell's row from the rows below.
use Rattle.std.specs.Prelude.{Bool, ◌&&◌, List, [], ◌∷◌, ℕ}
use Rattle.laws.specs.Choice.{pick}
use Rattle.theory.specs.Net.{Net}
use Rattle.theory.specs.Greedy.{sends, reserved, marked, fill, unmet, Outcome, run}

-- cell i, where t has the rows of the cells below it, and u is the table to be mended
module _ (s : Net) (u t : List ℕ) (i : ℕ) where
  -- "its reservations", at positions that may be reserved: on a site the open ones
  abbrev pub may_keep : ℕ → Bool
  may_keep k = s.usable k && reserved s.width u i k

  -- "keep its reservations in rising position where no kept or added reservation of an earlier clashing cell stands, until the load is met"
  abbrev pub kept_row : List ℕ
  kept_row = fill may_keep 0 (s.load i) (marked s t i i)

  -- what the load still wants
  abbrev pub lacking : ℕ
  lacking = unmet may_keep 0 (s.load i) (marked s t i i)

  -- "drop the rest; then add the lowest free positions until it is met": 1 where a reservation stands, 2 where one of an earlier clashing cell does
  unfoldable pub stand : List ℕ
  stand = fill s.usable 0 lacking kept_row

-- what stands once the table u is mended, or the cell that finds no room and what it is short
abbrev pub mend : Net → List ℕ → Outcome
mend s u = run s (stand s u) s.cells

-- "An added position becomes 1, a dropped one 0, every other byte stays": whether a reservation is to stand, and the old byte
abbrev pub mend_byte : Bool → ℕ → ℕ
mend_byte is x = pick is 1 (pick (sends x) 0 x)

-- the old table u, mended to what stands in t; bytes past t stay
unfoldable pub overlay : List ℕ → List ℕ → List ℕ
overlay [] u = u
overlay (b ∷ bs) [] = []
overlay (b ∷ bs) (x ∷ xs) = mend_byte (sends b) x ∷ overlay bs xs
