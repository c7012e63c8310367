-- Reach rows, one of 32 bits for each cell: what is wrong with a row, who reaches whom, and who clashes. Cells are indexed from 0.
use Rattle.std.specs.Prelude.{ℕ, ◌/◌, ◌^◌, Bool, not, ◌||◌, ◌&&◌, List, ltb, eqb}
use Rattle.laws.specs.Choice.{pick}
use Rattle.laws.specs.Bits.{bit_at, bit_in}
use Rattle.laws.specs.Sum.{any}

-- "reach row or bit beyond I, or to itself": the row x of the cell at index k, on a site with n cells
unfoldable pub row_bad : ℕ → ℕ → ℕ → Bool
row_bad n x k = pick (ltb k n) (ltb 0 (x / 2 ^ n) || bit_at x k) (ltb 0 x)

-- "Reach is one way: a reaches b when a's transmissions can disturb b's." By index, over the reach rows.
unfoldable pub reaches : List ℕ → ℕ → ℕ → Bool
reaches rows a b = bit_in rows a b

-- W11: "some third cell is reached by both": a cell that is neither of the two
unfoldable pub reached_by_both : List ℕ → ℕ → ℕ → Bool
reached_by_both rows a b = any (λ c. not (eqb c a) && (not (eqb c b) && (reaches rows a c && reaches rows b c))) 32

-- "Two different cells clash when either reaches the other (000, section III)."
-- W11: "rule 2: two cells clash also when some third cell is reached by both". What clashes under a rule.
unfoldable pub clash_in : ℕ → List ℕ → ℕ → ℕ → Bool
clash_in rule rows a b = not (eqb a b) && (reaches rows a b || (reaches rows b a || (eqb rule 2 && reached_by_both rows a b)))
