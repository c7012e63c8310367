-- The equalities that the contracts of crate `positions` state: r is the answer, and x' what a lent x holds afterwards.
-- Made by tools/surface from the source.
use Rattle.std.specs.Prelude.{Bool, List, length, not, ℕ, ◌^◌, ◌≡◌}
use Rattle.laws.specs.Bits.{bit_at}
use Rattle.laws.specs.Choice.{pick}
use Rattle.laws.specs.Part.{list_of}
use Rattle.laws.specs.Sum.{count}
use Rattle.positions.specs.Blocked.{any_in, bar_of, blocked_at, first_past, most_positions, open_in}

-- positions::has_bit
pub record PositionsHasBit (x : ℕ) (b : ℕ) (r : Bool) : Type 0 where
  pub answer : r ≡ bit_at x b

-- positions::bits_in
pub record PositionsBitsIn (x : ℕ) (r : ℕ) : Type 0 where
  pub answer : r ≡ count (bit_at x) 64

-- positions::bit_weight
pub record PositionsBitWeight (t : Bool) (b : ℕ) (r : ℕ) : Type 0 where
  pub answer : r ≡ pick t (2 ^ b) 0

-- positions::is_blocked
pub record PositionsIsBlocked (set : List ℕ) (k : ℕ) (r : Bool) : Type 0 where
  pub answer : r ≡ blocked_at set k

-- positions::open_count
pub record PositionsOpenCount (set : List ℕ) (n : ℕ) (r : ℕ) : Type 0 where
  pub answer : r ≡ open_in set n

-- positions::first_past
pub record PositionsFirstPast (set : List ℕ) (n : ℕ) (r : ℕ) : Type 0 where
  pub answer : r ≡ first_past set n

-- positions::none_blocked
pub record PositionsNoneBlocked (set : List ℕ) (r : Bool) : Type 0 where
  pub answer : r ≡ not (any_in set most_positions)

-- positions::bars
pub record PositionsBars (set : List ℕ) (mask : List ℕ) (mask' : List ℕ) : Type 0 where
  pub mask_after : mask' ≡ list_of (bar_of set) (length mask)
