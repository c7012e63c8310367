-- The order of a block: 128 bytes of a table as two words of 64 bits. Position 16 k + b, for k below 8 and b below 16, is bit 8 (b % 8) + k of word b / 8.
use Rattle.std.specs.Prelude.{Bool, ◌||◌, not, List, ℕ, ◌+◌, ◌-◌, ◌*◌, ◌/◌, ◌%◌, ltb, eqb, get_or}
use Rattle.std.specs.Int.Bits.{bit_and}
use Rattle.laws.specs.Bits.{bit_at, word_of}
use Rattle.laws.specs.Choice.{pick}
use Rattle.theory.specs.Greedy.{sends}

-- a test of positions, in the order of a block's low word, and of its high word
abbrev pub low_order : (ℕ → Bool) → ℕ → Bool
low_order test q = test (16 * (q % 8) + q / 8)

abbrev pub high_order : (ℕ → Bool) → ℕ → Bool
high_order test q = test (16 * (q % 8) + q / 8 + 8)

-- the reservations of the block that begins at `from`, in that order
abbrev pub low_sends : List ℕ → ℕ → ℕ → Bool
low_sends bytes from = low_order (λ k. sends (get_or bytes (from + k) 0))

abbrev pub high_sends : List ℕ → ℕ → ℕ → Bool
high_sends bytes from = high_order (λ k. sends (get_or bytes (from + k) 0))

-- bit k of two words, one after the other
abbrev pub bit_of_two : ℕ → ℕ → ℕ → Bool
bit_of_two x y k = pick (ltb k 64) (bit_at x k) (bit_at y (k - 64))

-- eight bytes, each 16 after the one before it, as the bits of one
abbrev pub column_at : List ℕ → ℕ → ℕ
column_at bytes at = word_of (λ k. sends (get_or bytes (at + 16 * k) 0)) 8

-- two bytes, and eight neighbouring ones, as a number, the first lowest
abbrev pub pair_from_bytes : List ℕ → ℕ → ℕ → ℕ
pair_from_bytes l a b = get_or l a 0 + 256 * get_or l b 0

abbrev pub word_from_bytes : List ℕ → ℕ → ℕ
word_from_bytes l k =
    pair_from_bytes l k (k + 1) + 65536 * pair_from_bytes l (k + 2) (k + 3)
    + 4294967296 * (pair_from_bytes l (k + 4) (k + 5) + 65536 * pair_from_bytes l (k + 6) (k + 7))

-- whether a block has position k, by its words
abbrev pub placed : ℕ → ℕ → ℕ → Bool
placed low high k = pick (ltb (k % 16) 8) (bit_at low (8 * (k % 16) + k / 16)) (bit_at high (8 * (k % 16 - 8) + k / 16))

-- two blocks share a bit of their low words, or of their high words
unfoldable pub meeting : ℕ → ℕ → ℕ → ℕ → Bool
meeting low high x y = not (eqb (bit_and low x) 0) || not (eqb (bit_and high y) 0)
