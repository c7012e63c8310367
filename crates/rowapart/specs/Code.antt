-- What the loops ask: bytes that are alike, a row that takes the marks of an earlier one over, and how long a mask is.
use Rattle.std.specs.Prelude.{Bool, not, List, ℕ, ◌+◌, ◌*◌, eqb, get_or}
use Rattle.laws.specs.Choice.{pick}
use Rattle.laws.specs.Sum.{any}
use Rattle.positions.specs.Blocked.{most_positions, any_in}

-- m bytes of t, from `from` on, are the first m of p
abbrev pub bytes_alike : List ℕ → ℕ → List ℕ → ℕ → Bool
bytes_alike t from p m = not (any (λ k. not (eqb (get_or t (from + k) 0) (get_or p k 0))) m)

-- the byte of the row r at position p, forbidden where row j of t is not idle
abbrev pub cover_by : ℕ → List ℕ → ℕ → List ℕ → ℕ → ℕ
cover_by n t j r p = pick (eqb (get_or t (j * n + p) 0) 0) (get_or r p 0) 2

-- the bytes of the mask of n positions: none where no position is blocked
abbrev pub mask_size : List ℕ → ℕ → ℕ
mask_size blocked n = pick (any_in blocked most_positions) n 0
