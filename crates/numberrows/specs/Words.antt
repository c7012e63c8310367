-- The tests of the numbering on sets of cells as words: bit j for cell j. What they mean stands in proofs/Words.antt.
use Rattle.std.specs.Prelude.{Bool, ◌&&◌, ◌||◌, not, List, ℕ, eqb, get_or}
use Rattle.std.specs.Int.Bits.{bit_and}
use Rattle.laws.specs.Bits.{bit_at}
use Rattle.laws.specs.Sum.{any}

-- one of `near`, other than a, is not in a's row
unfoldable pub misses_in : ℕ → ℕ → ℕ → Bool
misses_in near row a = any (λ b. bit_at near b && not (eqb a b || bit_at row b)) 32

-- those of `near` are all in one another's rows
unfoldable pub close_in : List ℕ → ℕ → Bool
close_in rows near = not (any (λ a. bit_at near a && misses_in near (get_or rows a 0) a) 32)

-- i is left, and those left of its row are all in one another's rows
unfoldable pub fit_in : List ℕ → ℕ → ℕ → Bool
fit_in rows left i = bit_at left i && close_in rows (bit_and (get_or rows i 0) left)
