-- The body of kind 6. W8: "kind 6 after kind 3 holds one bit for each of the FT positions, left-over bits 0"; the bits are ordered as the plan's:
-- index k has byte k/8, weight 2 to the power k mod 8.
use Rattle.std.specs.Prelude.{ℕ, ◌+◌, ◌*◌, ◌/◌, ◌%◌, Bool, not, List, []}
use Rattle.laws.specs.Bits.{bit_in, word_of}
use Rattle.laws.specs.Choice.{pick}
use Rattle.laws.specs.Part.{list_of}
use Rattle.positions.specs.Blocked.{most_positions, blocked_at, any_in, set_of}
use Rattle.records.specs.Bits.{bytes_for}
use Rattle.records.specs.Layout.{record_of}

-- the bit of position k
abbrev pub bit_stated : List ℕ → ℕ → Bool
bit_stated body k = bit_in body (k / 8) (k % 8)

-- the set that a body states
unfoldable pub blocked_of_body : List ℕ → List ℕ
blocked_of_body body = set_of (bit_stated body)

-- the byte of the positions 8 j to 8 j + 7
abbrev pub block_byte : List ℕ → ℕ → ℕ
block_byte set j = word_of (λ b. blocked_at set (8 * j + b)) 8

-- the body for n positions
unfoldable pub block_bytes : List ℕ → ℕ → List ℕ
block_bytes set n = list_of (block_byte set) (bytes_for n)

-- nothing is blocked
abbrev pub nothing_in : List ℕ → Bool
nothing_in set = not (any_in set most_positions)

-- the record; "it is absent when nothing is blocked"
unfoldable pub block_record : List ℕ → ℕ → List ℕ
block_record set n = pick (nothing_in set) [] (record_of 6 (block_bytes set n))
