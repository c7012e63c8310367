-- One stage of turning a square: what the code computes, word by word. A caller of `turned` need not read this.
use Rattle.std.specs.Prelude.{ℕ, ◌+◌, ◌*◌, ◌/◌, ◌%◌, ◌^◌, List, eqb, get_or}
use Rattle.std.specs.Int.Bits.{bit_and, bit_xor}
use Rattle.laws.specs.Choice.{pick}

-- where y differs from x, moved down by m, within the mask
abbrev pub swap_bits : ℕ → ℕ → ℕ → ℕ → ℕ
swap_bits m mask x y = bit_and (bit_xor (x / 2 ^ m) y) mask

-- the two words that a stage makes of x and y, cut to 32 bits: x with the mask's bits of y, moved up by m;
-- y with the bits of x, moved down by m, in the mask's places
abbrev pub low_of : ℕ → ℕ → ℕ → ℕ → ℕ
low_of m mask x y = bit_xor x (swap_bits m mask x y * 2 ^ m % 4294967296) % 4294967296

abbrev pub high_of : ℕ → ℕ → ℕ → ℕ → ℕ
high_of m mask x y = bit_xor y (swap_bits m mask x y) % 4294967296

-- row k of what a stage makes of the rows: of rows i and i + 16, the low word at 2 i and the high word at 2 i + 1
unfoldable pub crossed : ℕ → ℕ → List ℕ → ℕ → ℕ
crossed m mask rows k =
    pick (eqb (k % 2) 0) (low_of m mask (get_or rows (k / 2) 0) (get_or rows (k / 2 + 16) 0))
    (high_of m mask (get_or rows (k / 2) 0) (get_or rows (k / 2 + 16) 0))
