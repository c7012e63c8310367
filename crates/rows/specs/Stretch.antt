-- The stretch of a row in which positions are reserved, and a row that takes the marks of an earlier one over.
use Rattle.std.specs.Prelude.{Bool, true, ◌&&◌, ◌||◌, not, List, ◌≡◌, ℕ, suc, ◌+◌, ◌*◌, ◌/◌, ◌≤◌, ◌<◌, min, eqb, ltb, length, get_or, take}
use Rattle.laws.specs.Choice.{pick}
use Rattle.laws.specs.Part.{part}
use Rattle.laws.specs.Search.{first}
use Rattle.laws.specs.Sum.{count}
use Rattle.theory.specs.Net.{unblocked}
use Rattle.theory.specs.Greedy.{reserved, unmet}
use Rattle.rows.specs.declared.Filled.{Filled}

-- the row r is the row before, but for the positions from a to b
abbrev pub SameBut : ℕ → ℕ → List ℕ → List ℕ → Type 0
SameBut a b before r = (a ≤ b) × (b ≤ length before)
    × ((p : ℕ) → p < a → get_or r p 0 ≡ get_or before p 0) × ((p : ℕ) → b ≤ p → p < length before → get_or r p 0 ≡ get_or before p 0)

-- in a table of rows of n bytes, cell i sends at no position but those from a to b
abbrev pub SendsIn : ℕ → List ℕ → ℕ → ℕ → ℕ → Type 0
SendsIn n t i a b = (a ≤ b) × (b ≤ n) × ((p : ℕ) → p < n → reserved n t i p ≡ true → (a ≤ p) × (p < b))

-- the byte of row i at position p, forbidden where row j is not idle
abbrev pub cover_at : ℕ → List ℕ → ℕ → ℕ → ℕ → ℕ
cover_at n t j i p = pick (eqb (get_or t (j * n + p) 0) 0) (get_or t (i * n + p) 0) 2

-- ---- a row is filled by pieces of so many positions, with this load

-- the fragments that are left after k pieces, and the idle positions of piece k
abbrev pub left_after : ℕ → ℕ → List ℕ → ℕ → ℕ
left_after size load row k = unmet unblocked 0 load (take (k * size) row)

abbrev pub idle_at : ℕ → List ℕ → ℕ → ℕ
idle_at size row k = count (λ q. unblocked q && eqb (get_or (part (k * size) size row) q 0) 0) (length (part (k * size) size row))

-- whether no piece is filled as a whole from piece k on, and how many are of a row of so many slots
abbrev pub stops_at : ℕ → ℕ → List ℕ → ℕ → Bool
stops_at size load row k = eqb (left_after size load row k) 0 || ltb (left_after size load row k) (idle_at size row k)

abbrev pub whole_pieces : ℕ → ℕ → ℕ → List ℕ → ℕ
whole_pieces slots size load row = first (stops_at size load row) 0 (slots / 8)

-- where the first of k pieces begins after which not all of the load is left
abbrev pub fill_start : ℕ → ℕ → List ℕ → ℕ → ℕ
fill_start size load row k = first (λ j. not (eqb (left_after size load row (suc j)) load)) 0 k * size

-- where the filling ends: after k pieces, or within eight slots more
abbrev pub fill_end : ℕ → ℕ → ℕ → ℕ → ℕ
fill_end slots channels left k = pick (eqb left 0) (8 * k) (min (8 * k + 8) slots) * channels

-- what the filling of a row gives
abbrev pub filled_by : ℕ → ℕ → ℕ → List ℕ → Filled
filled_by slots channels load row = record {
  left = unmet unblocked 0 load row;
  from = fill_start (8 * channels) load row (whole_pieces slots (8 * channels) load row);
  to = fill_end slots channels (left_after (8 * channels) load row (whole_pieces slots (8 * channels) load row)) (whole_pieces slots (8 * channels) load row);
}
