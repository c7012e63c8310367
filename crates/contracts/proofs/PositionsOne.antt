-- For any arguments one answer and one content of what is lent meet the contract, and no other, in crate `positions`: by its equalities alone.
-- Made by tools/surface from the source. Assumes nothing.
use Rattle.std.specs.Prelude.{Bool, List, length, not, refl, ℕ, ◌^◌, ◌≡◌}
use Rattle.contracts.specs.PositionsSays.{PositionsBars, PositionsBitWeight, PositionsBitsIn, PositionsFirstPast, PositionsHasBit, PositionsIsBlocked}
use Rattle.contracts.specs.PositionsSays.{PositionsNoneBlocked, PositionsOpenCount}
use Rattle.laws.specs.Bits.{bit_at}
use Rattle.laws.specs.Choice.{pick}
use Rattle.laws.specs.Part.{list_of}
use Rattle.laws.specs.Sum.{count}
use Rattle.positions.specs.Blocked.{any_in, bar_of, blocked_at, first_past, most_positions, open_in}

-- positions::has_bit
pub positions_has_bit-one : (x : ℕ) (b : ℕ)
    → (r : Bool) × (PositionsHasBit x b r)
    × ((q : Bool) → PositionsHasBit x b q → (q ≡ r))
positions_has_bit-one x b = (
  bit_at x b,
  record { answer = refl },
  λ q says. says.answer,
)

-- positions::bits_in
pub positions_bits_in-one : (x : ℕ)
    → (r : ℕ) × (PositionsBitsIn x r)
    × ((q : ℕ) → PositionsBitsIn x q → (q ≡ r))
positions_bits_in-one x = (
  count (bit_at x) 64,
  record { answer = refl },
  λ q says. says.answer,
)

-- positions::bit_weight
pub positions_bit_weight-one : (t : Bool) (b : ℕ)
    → (r : ℕ) × (PositionsBitWeight t b r)
    × ((q : ℕ) → PositionsBitWeight t b q → (q ≡ r))
positions_bit_weight-one t b = (
  pick t (2 ^ b) 0,
  record { answer = refl },
  λ q says. says.answer,
)

-- positions::is_blocked
pub positions_is_blocked-one : (set : List ℕ) (k : ℕ)
    → (r : Bool) × (PositionsIsBlocked set k r)
    × ((q : Bool) → PositionsIsBlocked set k q → (q ≡ r))
positions_is_blocked-one set k = (
  blocked_at set k,
  record { answer = refl },
  λ q says. says.answer,
)

-- positions::open_count
pub positions_open_count-one : (set : List ℕ) (n : ℕ)
    → (r : ℕ) × (PositionsOpenCount set n r)
    × ((q : ℕ) → PositionsOpenCount set n q → (q ≡ r))
positions_open_count-one set n = (
  open_in set n,
  record { answer = refl },
  λ q says. says.answer,
)

-- positions::first_past
pub positions_first_past-one : (set : List ℕ) (n : ℕ)
    → (r : ℕ) × (PositionsFirstPast set n r)
    × ((q : ℕ) → PositionsFirstPast set n q → (q ≡ r))
positions_first_past-one set n = (
  first_past set n,
  record { answer = refl },
  λ q says. says.answer,
)

-- positions::none_blocked
pub positions_none_blocked-one : (set : List ℕ)
    → (r : Bool) × (PositionsNoneBlocked set r)
    × ((q : Bool) → PositionsNoneBlocked set q → (q ≡ r))
positions_none_blocked-one set = (
  not (any_in set most_positions),
  record { answer = refl },
  λ q says. says.answer,
)

-- positions::bars
pub positions_bars-one : (set : List ℕ) (mask : List ℕ)
    → (mask' : List ℕ) × (PositionsBars set mask mask')
    × ((mask'' : List ℕ) → PositionsBars set mask mask'' → (mask'' ≡ mask'))
positions_bars-one set mask = (
  list_of (bar_of set) (length mask),
  record { mask_after = refl },
  λ mask'' says. says.mask_after,
)
