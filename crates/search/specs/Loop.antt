-- What the loops of the search's call ask: a list in an array, and places in the table.
use Rattle.std.specs.Prelude.{◌≡◌, List, ℕ, ◌+◌, ◌*◌, ◌≤◌, ◌<◌, length, get_or, take}

-- a list in an array of m: its first `count` elements, or a count above m where the list has more than m
pub record Listed (m : ℕ) (xs : List ℕ) (count : ℕ) (array : List ℕ) : Type 0 where
  pub size : length array ≡ m
  pub all : count ≤ m → take count array ≡ xs
  pub over : m < count → m < length xs

-- each fragment has a byte of the table for each open position, in rows of n bytes
abbrev pub Spots : ℕ → List ℕ → List ℕ → List ℕ → Type 0
Spots n owner opens table = (k i : ℕ) → k < length owner → i < length opens → get_or owner k 0 * n + get_or opens i 0 < length table
