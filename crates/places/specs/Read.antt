-- How the text of a place is read: the numbers that stand in it are cells, and a mark is there or not.
use Rattle.std.specs.Prelude.{ℕ, ◌+◌, ◌-◌, ◌*◌, Bool, false, ◌&&◌, ◌||◌, List, [], ◌∷◌, ◌++◌, eqb, ltb}
use Rattle.laws.specs.Bits.{bit_at}
use Rattle.laws.specs.Choice.{pick}
use Rattle.faults.specs.Faults.{passed}

-- a digit is one of the bytes 48 to 57
abbrev pub is_digit : ℕ → Bool
is_digit b = ltb 47 b && ltb b 58

-- a number that has been read, if there is one: none is 0
abbrev pub read_number : ℕ → List ℕ
read_number n = pick (eqb n 0) [] (n ∷ [])

-- the numbers in a text, where the digits so far make n: any byte that is no digit ends a number
unfoldable pub numbers_from : ℕ → List ℕ → List ℕ
numbers_from n [] = read_number n
numbers_from n (b ∷ text) = pick (is_digit b) (numbers_from (10 * n + (b - 48)) text) (read_number n ++ numbers_from 0 text)

abbrev pub numbers_told : List ℕ → List ℕ
numbers_told text = numbers_from 0 text

-- whether a byte stands in a text: 33 is !, 35 is #; 104 is the h of "clash", and 98 the b of "blocked"
unfoldable pub stands : ℕ → List ℕ → Bool
stands b [] = false
stands b (x ∷ text) = eqb x b || stands b text

-- the cells of a word, in rising order, as they are named
abbrev pub cells_in : ℕ → ℕ → List ℕ
cells_in word n = passed (bit_at word) (λ i. i + 1) n
