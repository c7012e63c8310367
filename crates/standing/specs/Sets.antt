-- What is kept on the way: a set of positions for each cell, of w words each, one after the other: where the cell stands, and where it stood.
use Rattle.std.specs.Prelude.{◌≡◌, Bool, false, ◌&&◌, not, List, ℕ, ◌+◌, ◌-◌, ◌*◌, ◌≤◌, ◌<◌, ltb}
use Rattle.laws.specs.Bits.{bit_at, bit_in}
use Rattle.laws.specs.Sum.{any, count}
use Rattle.theory.specs.Net.{Reserved}
use Rattle.theory.specs.Greedy.{reserved}
use Rattle.site.specs.Reach.{is_open}
use Rattle.mending.specs.Keep.{stand_at}
use Rattle.mending.specs.Changes.{differ}
use Rattle.sets.specs.Sets.{in_set}
use Rattle.sets.specs.Pack.{in_cell}

-- what the sets say: whether cell i, whose set begins at word i * w, stands at position k
abbrev pub stands_in : ℕ → List ℕ → Reserved
stands_in w stands i k = in_set stands (64 * (i * w) + k)

-- the open positions of n. W8: "a valid table reserves none of them", of the blocked ones
abbrev pub vacant_at : ℕ → List ℕ → ℕ → Bool
vacant_at n blocked k = ltb k n && is_open blocked k

-- "where no kept or added reservation of an earlier clashing cell stands": of some positions, those where no cell below i stands that the clash row has
abbrev pub free_by : (ℕ → Bool) → ℕ → ℕ → List ℕ → ℕ → ℕ → Bool
free_by vacant w row stands i k = vacant k && not (any (λ a. bit_at row a && stands_in w stands a k) i)

-- the same of the open positions
abbrev pub free_in : ℕ → ℕ → List ℕ → ℕ → List ℕ → ℕ → ℕ → Bool
free_in w n blocked = free_by (vacant_at n blocked) w

-- A cell's turn, over n positions. `old` are "its reservations"; `free` are the positions "where no kept or added reservation of an earlier
-- clashing cell stands". What stands in the end is `stand_at` of mending/specs/Keep.antt.
module _ (free old : ℕ → Bool) (load n : ℕ) where
  -- "until it is met": how much of the load is not
  abbrev pub short_count : ℕ
  short_count = load - count (stand_at free old load n) n

  -- how many positions change
  abbrev pub turn_count : ℕ
  turn_count = count (λ k. differ (stand_at free old load n k) (old k)) n

-- a set has the open positions of n
abbrev pub OpenIn : ℕ → ℕ → List ℕ → List ℕ → Type 0
OpenIn w n blocked vacant = (k : ℕ) → k < 64 * w → in_set vacant k ≡ vacant_at n blocked k

-- sets have the reservations of so many rows of a table
abbrev pub OldIn : ℕ → ℕ → ℕ → List ℕ → List ℕ → Type 0
OldIn w cells n u old = (i k : ℕ) → i < cells → k < 64 * w → stands_in w old i k ≡ in_cell n u i k

-- clash rows that say the same of two cells either way
abbrev pub TwoWay : List ℕ → Type 0
TwoWay rows = (a b : ℕ) → bit_in rows a b ≡ bit_in rows b a

-- what the sets of so many cells say, where t is what stands and u the old table: who stands where, and who stood; past the positions nobody
pub record Says (cells n w : ℕ) (t u stands old : List ℕ) : Type 0 where
  pub stands_at : (i k : ℕ) → i < cells → k < n → stands_in w stands i k ≡ reserved n t i k
  pub stood_at : (i k : ℕ) → i < cells → k < n → stands_in w old i k ≡ reserved n u i k
  pub none_past : (i k : ℕ) → i < cells → n ≤ k → k < 64 * w → (stands_in w stands i k ≡ false) × (stands_in w old i k ≡ false)
