-- The problem as far as the chain rule and the class ask, and what they ask of clash rows and of the word of the cells that count.
-- No answer is defined here: the searches are the theory's, proofs/Rows.antt.
use Rattle.std.specs.Prelude.{ℕ, ◌+◌, List, ltb, get_or, Bool, not, ◌&&◌, ◌≡◌}
use Rattle.std.specs.Int.Bits.{bit_and}
use Rattle.laws.specs.Bits.{bit_at, bit_in}
use Rattle.laws.specs.Choice.{pick}
use Rattle.laws.specs.Search.{first}
use Rattle.theory.specs.Net.{Net, unblocked}

-- how many cells, and who clashes
abbrev pub chain_in : ℕ → (ℕ → ℕ → Bool) → Net
chain_in cells clash = record { cells = cells; width = 0; load = λ _. 0; clash = clash; usable = unblocked }

-- the first cell between a and c that counts and is not in the row of a; c where there is none. The theory's `gap`
unfoldable pub gap_in : ℕ → ℕ → ℕ → ℕ → ℕ
gap_in row who a c = first (λ b. bit_at who b && not (bit_at row b)) (a + 1) c

-- the first of n cells that counts, is in the row of a and stands past such a gap; n where there is none, or a does not count. The theory's `break_of`
unfoldable pub break_in : ℕ → ℕ → ℕ → ℕ → ℕ
break_in row who a n = pick (bit_at who a) (first (λ c. bit_at who c && bit_at row c) (gap_in row who a n) n) n

-- what one row says of another's cell, that one says of this one's: clash is symmetric
abbrev pub Mirrored : List ℕ → Type 0
Mirrored rows = (a b : ℕ) → bit_in rows a b ≡ bit_in rows b a

-- the first cell of `near`, the cells that count and clash with i, that does not clash with a later one of them below i; i where there is none
unfoldable pub far_in : List ℕ → ℕ → ℕ → ℕ
far_in rows near i = first (λ a. bit_at near a && ltb (gap_in (get_or rows a 0) near a i) i) 0 i

-- the same for the cell i; i where it does not count. The theory's `split_of`
unfoldable pub split_in : List ℕ → ℕ → ℕ → ℕ
split_in rows who i = pick (bit_at who i) (far_in rows (bit_and who (get_or rows i 0)) i) i

-- the first of n cells with such a cell; n where there is none. The theory's `first_split`
unfoldable pub first_split_in : List ℕ → ℕ → ℕ → ℕ
first_split_in rows who n = first (λ i. ltb (split_in rows who i) i) 0 n
