-- Keeping and adding in one row, without its bytes: which positions are free, and which of them were reserved, are all that it asks.
use Rattle.std.specs.Prelude.{Bool, ◌&&◌, ◌||◌, not, ℕ, ◌-◌}
use Rattle.laws.specs.Sum.{count}
use Rattle.laws.specs.Few.{first_few}

-- of n positions, f the free ones and o the old reservations, for a load of l
module _ (f o : ℕ → Bool) (l n : ℕ) where
  -- "keep its reservations in rising position .. until the load is met"
  abbrev pub keep_at : ℕ → Bool
  keep_at = first_few (λ k. f k && o k) l

  -- "then add the lowest free positions until it is met"
  abbrev pub add_at : ℕ → Bool
  add_at = first_few (λ k. f k && not (keep_at k)) (l - count keep_at n)

  -- what stands then
  abbrev pub stand_at : ℕ → Bool
  stand_at k = keep_at k || add_at k
