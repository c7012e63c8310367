-- The pairs of a kind 3 body, and the reach rows that they set: pairs from, to, "a byte each, strictly rising by from, then to".
-- A place q is the pair of the cells q / 32 + 1 and q % 32 + 1, so that places rise by from, then to. It is the bit q % 32 of the row q / 32.
use Rattle.std.specs.Prelude.{ℕ, zero, suc, ◌+◌, ◌-◌, ◌*◌, ◌/◌, ◌%◌, List, [], ◌∷◌, ◌++◌, Bool, not, ◌&&◌, get_or, set, replicate, eqb}
use Rattle.laws.specs.Choice.{pick}
use Rattle.laws.specs.Bits.{bit_at, set_bit}
use Rattle.site.specs.Record.{up_to}

-- two different cells of the site; else "a pair .. naming a cell outside 1..I, or one cell twice"
unfoldable pub pair_ok : ℕ → ℕ → ℕ → Bool
pair_ok cells from to = up_to cells from && (up_to cells to && not (eqb from to))

abbrev pub place : ℕ → ℕ → ℕ
place from to = (from - 1) * 32 + (to - 1)

-- the rows with the bit at q set
abbrev pub mark : List ℕ → ℕ → List ℕ
mark rows q = set rows (q / 32) (set_bit (get_or rows (q / 32) 0) (q % 32))

-- the rows with the bit of every pair of a body set
abbrev pub mark_all : List ℕ → List ℕ → List ℕ
mark_all rows [] = rows
mark_all rows (f ∷ []) = rows
mark_all rows (f ∷ t ∷ r) = mark_all (mark rows (place f t)) r

-- the bytes of the pair at q, if its bit is set in its row
unfoldable pub pair_of : ℕ → ℕ → List ℕ
pair_of row q = pick (bit_at row (q % 32)) ((q / 32 + 1) ∷ (q % 32 + 1) ∷ []) []

-- the bytes of the pairs at n places from q on
unfoldable pub pairs_from : List ℕ → ℕ → ℕ → List ℕ
pairs_from rows q zero = []
pairs_from rows q (suc n) = pair_of (get_or rows (q / 32) 0) q ++ pairs_from rows (q + 1) n

-- no load and no reach: "Unused loads and rows are zero."
abbrev pub all_zero : List ℕ
all_zero = replicate 32 0

-- the rows that a kind 3 body states
abbrev pub reach_of_body : List ℕ → List ℕ
reach_of_body body = mark_all all_zero body

-- the bytes of all the pairs, from row after row: 32 places in each of 32 rows
unfoldable pub pair_bytes : List ℕ → List ℕ
pair_bytes reach = pairs_from reach 0 1024
