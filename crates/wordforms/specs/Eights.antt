-- Eight cells at a time: what the loops of this crate ask.
use Rattle.std.specs.Prelude.{List, ℕ, ◌+◌, ◌*◌, ◌^◌, get_or}
use Rattle.std.specs.Int.Bits.{bit_or}
use Rattle.laws.specs.Bits.{word_of}
use Rattle.theory.specs.Greedy.{reserved}

-- the byte that the word of position k has of the eight cells from i on, in a table of rows of n bytes
abbrev pub eight_of : ℕ → List ℕ → ℕ → ℕ → ℕ
eight_of n t i k = word_of (λ b. reserved n t (i + b) k) 8

-- the k-th word from `at` on with byte k joined, as the bits of the eight cells from i on
abbrev pub byte_joined : List ℕ → ℕ → List ℕ → ℕ → ℕ → ℕ
byte_joined words at bytes i k = bit_or (get_or words (at + k) 0) (get_or bytes k 0 * 2 ^ i)

-- word k with the cells of `eight_of` joined
abbrev pub eight_joined : ℕ → List ℕ → ℕ → List ℕ → ℕ → ℕ
eight_joined n t i words k = bit_or (get_or words k 0) (eight_of n t i k * 2 ^ i)
