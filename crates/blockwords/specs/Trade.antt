-- One trade of a word's bits: what the code computes. A caller of the crate need not read this.
use Rattle.std.specs.Prelude.{ℕ, ◌*◌, ◌/◌, ◌%◌, ◌^◌}
use Rattle.std.specs.Int.Bits.{bit_and, bit_xor}

-- where a bit of the mask differs from the bit that stands m above it
abbrev pub traded_bits : ℕ → ℕ → ℕ → ℕ
traded_bits m mask x = bit_and (bit_xor x (x / 2 ^ m)) mask

-- the word with both turned there
unfoldable pub traded : ℕ → ℕ → ℕ → ℕ
traded m mask x = bit_xor (bit_xor x (traded_bits m mask x)) (traded_bits m mask x * 2 ^ m % 18446744073709551616)
