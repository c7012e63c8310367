-- The bytes of a row as words of positions, by blocks of 128.
use Rattle.std.specs.Prelude.{Bool, List, ℕ, ◌+◌, ◌*◌, ◌/◌, ◌%◌, eqb, get_or}
use Rattle.laws.specs.Bits.{word_of}
use Rattle.laws.specs.Choice.{pick}
use Rattle.theory.specs.Greedy.{sends}
use Rattle.blocks.specs.Order.{low_sends, high_sends}
use Rattle.blockwords.specs.Plain.{plain_bit}

-- whether position k is reserved in a row; past the row's end none is
abbrev pub in_row : List ℕ → ℕ → Bool
in_row row k = sends (get_or row k 0)

-- word j of a row's blocks, two words each, in the order of a block
unfoldable pub block_word : List ℕ → ℕ → ℕ
block_word row j = pick (eqb (j % 2) 0) (word_of (low_sends row (128 * (j / 2))) 64) (word_of (high_sends row (128 * (j / 2))) 64)

-- word j of such blocks, put in the order of the positions
unfoldable pub plain_word : List ℕ → ℕ → ℕ
plain_word l j =
    pick (eqb (j % 2) 0) (word_of (plain_bit 0 (get_or l (2 * (j / 2)) 0) (get_or l (2 * (j / 2) + 1) 0)) 64)
    (word_of (plain_bit 4 (get_or l (2 * (j / 2)) 0) (get_or l (2 * (j / 2) + 1) 0)) 64)

-- the first of two words, the second, and then 0
unfoldable pub one_of : ℕ → ℕ → ℕ → ℕ
one_of x y d = pick (eqb d 0) x (pick (eqb d 1) y 0)
