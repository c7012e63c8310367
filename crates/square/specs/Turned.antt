-- A square of 32 rows of 32 bits, turned over, and one of 16 rows of 16 bits.
use Rattle.std.specs.Prelude.{ℕ, ◌+◌, ◌*◌, ◌/◌, ◌%◌, List}
use Rattle.laws.specs.Bits.{bit_in, word_of}
use Rattle.laws.specs.Part.{list_of}

-- row a has bit b where row b of what is given has bit a
unfoldable pub turned : List ℕ → List ℕ
turned rows = list_of (λ a. word_of (λ b. bit_in rows b a) 32) 32

-- the same of the first 16 rows and their first 16 bits, four rows to a word: bit 16 i + b of word k has bit b of row 4 k + i
unfoldable pub turned_fours : List ℕ → List ℕ
turned_fours rows = list_of (λ k. word_of (λ q. bit_in rows (q % 16) (4 * k + q / 16)) 64) 4
