-- Words of four rows of 16 bits: what the code computes of two of them. A caller of `turned_fours` need not read this.
use Rattle.std.specs.Prelude.{ℕ, ◌*◌, ◌/◌, ◌^◌}
use Rattle.laws.specs.Bits.{bit_at, word_of}
use Rattle.laws.specs.Choice.{pick}

-- x with the bits of y where the mask has a bit
unfoldable pub mixed_of : ℕ → ℕ → ℕ → ℕ
mixed_of mask x y = word_of (λ q. pick (bit_at mask q) (bit_at y q) (bit_at x q)) 64

-- x with bits of y, moved down by d where `down` has a bit, and moved up by d where `up` has one
unfoldable pub traded_of : ℕ → ℕ → ℕ → ℕ → ℕ → ℕ
traded_of d down up x y = word_of (λ q. pick (bit_at up q) (bit_at (y * 2 ^ d) q) (pick (bit_at down q) (bit_at (y / 2 ^ d) q) (bit_at x q))) 64

-- two digits of a bit's place traded for those of its row in the word
abbrev pub inner_of : ℕ → ℕ
inner_of x =
    traded_of 15 187647121205930 6148820867675914240
    (traded_of 30 3435973836 3689348813882916864 x x)
    (traded_of 30 3435973836 3689348813882916864 x x)
