-- A body of bits. "index k has byte k/8, weight 2 to the power k mod 8; left-over bits are 0."
use Rattle.std.specs.Prelude.{ℕ, ◌+◌, ◌-◌, ◌*◌, ◌/◌, ◌%◌, ◌^◌, List, Bool, length, get_or, eqb}
use Rattle.laws.specs.Sum.{any}

-- n "/8 rounded up"
abbrev pub bytes_for : ℕ → ℕ
bytes_for n = (n + 7) / 8

-- the bit of index k, in the body s
abbrev pub bit_of : List ℕ → ℕ → ℕ
bit_of s k = get_or s (k / 8) 0 / 2 ^ (k % 8) % 2

-- "a left-over bit is 1": some bit of the body past its first n
unfoldable pub left_over : List ℕ → ℕ → Bool
left_over s n = any (λ b. eqb (bit_of s (n + b)) 1) (8 * length s - n)
