-- What the loops of the calls ask, of the loads, the clash row of a cell and the word of the cells that count. No answer is defined here.
use Rattle.std.specs.Prelude.{ℕ, ◌+◌, Bool, ◌&&◌, List, ltb, get_or}
use Rattle.laws.specs.Bits.{bit_at}
use Rattle.laws.specs.Choice.{pick}
use Rattle.loads.specs.Loads.{loads_below}

-- "its load plus the loads of its lower-numbered clashing cells", by the cell's clash row
abbrev pub demand_at : List ℕ → ℕ → ℕ → ℕ
demand_at loads row i = get_or loads i 0 + loads_below loads row i

-- whether the cell counts, and its demand is above the room
abbrev pub over_in : List ℕ → ℕ → ℕ → ℕ → ℕ → Bool
over_in loads row who room i = bit_at who i && ltb room (demand_at loads row i)

-- what the cell asks of the room: its demand where it counts, else 0
abbrev pub demand_counted : List ℕ → ℕ → ℕ → ℕ → ℕ
demand_counted loads row who i = pick (bit_at who i) (demand_at loads row i) 0
