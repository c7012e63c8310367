-- The clashes among the cells of a word, by clash rows: bit c of row a where the cells a and c clash. Of n cells in all.
-- They are `second_at`, `clashes_at` and `first_at` of theory/specs/Verdict.antt, asked of a position's word: proofs/Clashes.antt.
use Rattle.std.specs.Prelude.{Bool, ◌&&◌, List, ℕ, ◌+◌, ltb}
use Rattle.laws.specs.Bits.{bit_at, bit_in}
use Rattle.laws.specs.Search.{first}

-- the first cell of the word above a that clashes with a; n where there is none
unfoldable pub second_in : ℕ → List ℕ → ℕ → ℕ → ℕ
second_in word rows n a = first (λ c. bit_in rows a c && bit_at word c) (a + 1) n

-- a is in the word, and clashes with a cell of it above
unfoldable pub clashes_in : ℕ → List ℕ → ℕ → ℕ → Bool
clashes_in word rows n a = bit_at word a && ltb (second_in word rows n a) n

-- the first such cell; n where there is none
unfoldable pub first_in : ℕ → List ℕ → ℕ → ℕ
first_in word rows n = first (clashes_in word rows n) 0 n
