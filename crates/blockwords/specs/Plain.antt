-- Where a bit of a block's plain words comes from. In a block's order, position 16 k + b is bit 8 (b % 8) + k of word b / 8.
use Rattle.std.specs.Prelude.{Bool, ℕ, ◌+◌, ◌*◌, ◌/◌, ◌%◌, eqb}
use Rattle.laws.specs.Bits.{bit_at}
use Rattle.laws.specs.Choice.{pick}

-- bit q of a square of 8 rows of 8 bits that is turned over
abbrev pub turned_from : ℕ → ℕ
turned_from q = 8 * (q % 8) + q / 8

-- bit q of a word whose low and high bytes are laid by turns
abbrev pub laced_from : ℕ → ℕ
laced_from q = 8 * (q / 16) + q % 8 + 32 * (q / 8 % 2)

-- bit q of the plain word that begins at position 16 a of a block
abbrev pub plain_bit : ℕ → ℕ → ℕ → ℕ → Bool
plain_bit a low high q = pick (eqb (q / 8 % 2) 0) (bit_at low (8 * (q % 8) + (q / 16 + a))) (bit_at high (8 * (q % 8) + (q / 16 + a)))
