-- What the passes of the blocks leave: for the plan writer numbers of table bytes side by side, and numbers joined two by two; for the reader numbers parted
-- into their halves.
use Rattle.std.specs.Prelude.{ℕ, ◌+◌, ◌*◌, ◌/◌, ◌%◌, ◌^◌, ◌<◌, List, ◌≡◌, eqb, get_or}
use Rattle.laws.specs.Choice.{pick}
use Rattle.planbits.specs.Bits.{ones}

-- v starts with n numbers, each of c table bytes, from index k on
abbrev pub Runs : List ℕ → ℕ → ℕ → ℕ → List ℕ → Type 0
Runs t k c n v = (i : ℕ) → i < n → get_or v i 0 ≡ ones t (k + c * i) c

-- v starts with n numbers, each of two neighbours in u, the second with weight w
abbrev pub Joined : ℕ → ℕ → List ℕ → List ℕ → Type 0
Joined w n u v = (i : ℕ) → i < n → get_or v i 0 ≡ get_or u (2 * i) 0 + w * get_or u (2 * i + 1) 0

-- the halves of the numbers of l from index k on, c bits each, the low half first
abbrev pub half_of : ℕ → List ℕ → ℕ → ℕ → ℕ
half_of c l k q = pick (eqb (q % 2) 0) (get_or l (k + q / 2) 0 % 2 ^ c) (get_or l (k + q / 2) 0 / 2 ^ c % 2 ^ c)
