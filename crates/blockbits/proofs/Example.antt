-- Kind 6 byte for byte, computed: it holds the order of the bits from a second side. Assumes nothing.
use mathlib.Core.List.{[], ◌∷◌}
use mathlib.Core.Path.{◌≡◌, refl}
use lib.ListN.{replicate}
use Rattle.laws.specs.Bits.{word_of}
use Rattle.laws.specs.Part.{list_of}
use Rattle.laws.specs.Sum.{sum}
use Rattle.blockbits.specs.Blocks.{blocked_of_body, block_bytes}

-- the positions 0, 9 and 15 of sixteen: bit 0 of the first byte, bits 1 and 7 of the second
pub bits-written : block_bytes (33281 ∷ replicate 31 0) 16 ≡ 1 ∷ 130 ∷ []
unfolding block_bytes list_of word_of sum
bits-written = refl

pub bits-read : blocked_of_body (1 ∷ 130 ∷ []) ≡ 33281 ∷ replicate 31 0
unfolding blocked_of_body list_of word_of sum
bits-read = refl
