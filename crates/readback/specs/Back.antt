-- One row of a table of sentences, read back from a text: every place where the row stands, with its numbers. A row begins with < (60), as an element of a
-- picture does. Its bytes have place marks, an @ (64) and a digit, as `speech` has them.
use Rattle.std.specs.Prelude.{ℕ, Bool, true, false, ◌&&◌, not, List, [], ◌∷◌, ◌++◌, eqb, ltb, length, drop, get_or}
use Rattle.laws.specs.Choice.{pick}
use Rattle.text.specs.Decimal.{decimal}
use Rattle.speech.specs.Speech.{value_of, mark_said, spoken}
use Rattle.lines.specs.Match.{starts}
use Rattle.lines.specs.Content.{scanned}

-- the numbers that stand in the text where the row has its marks
unfoldable pub hear_numbers : List ℕ → List ℕ → List ℕ
hear_numbers [] text = []
hear_numbers (b ∷ []) text = []
hear_numbers (b ∷ mark ∷ row) text =
    pick (eqb b 64)
    (scanned 0 text ∷ hear_numbers row (drop (length (decimal (scanned 0 text))) text))
    (hear_numbers (mark ∷ row) (drop 1 text))

-- the row with these numbers
abbrev pub row_with : List ℕ → List ℕ → List ℕ
row_with row v = spoken (mark_said (get_or v 0 0) (get_or v 1 0) (get_or v 2 0) (get_or v 3 0)) row

-- what is read where a text begins: the numbers of the row, where the text begins with the row that has these numbers
abbrev pub row_heard : List ℕ → List ℕ → List (List ℕ)
row_heard row text = pick (starts (row_with row (hear_numbers row text)) text) (hear_numbers row text ∷ []) []

-- the numbers of the row at every place of the text where it stands
unfoldable pub rows_heard : List ℕ → List ℕ → List (List ℕ)
rows_heard row [] = []
rows_heard row (b ∷ text) = row_heard row (b ∷ text) ++ rows_heard row text

-- ---- of a row alone: what makes it certain that it is read back, and that another is not taken for it

-- its numbers in the order of its marks; from a mark's second byte on, or from another place on
unfoldable pub values_from : (a b c d : ℕ) → Bool → List ℕ → List ℕ
values_from a b c d marked [] = []
values_from a b c d true (mark ∷ row) = value_of a b c d mark ∷ values_from a b c d false row
values_from a b c d false (x ∷ row) = values_from a b c d (eqb x 64) row

abbrev pub values_of : (a b c d : ℕ) → List ℕ → List ℕ
values_of a b c d row = values_from a b c d false row

-- after a number comes a byte below the digits
abbrev pub stopped : List ℕ → Bool
stopped [] = false
stopped (d ∷ row) = ltb d 48

-- each of its marks is a number, and is stopped
unfoldable pub spaced : List ℕ → Bool
spaced [] = true
spaced (b ∷ []) = true
spaced (b ∷ mark ∷ row) = pick (eqb b 64) (ltb mark 97 && (stopped row && spaced row)) (spaced (mark ∷ row))

-- the two differ at a byte, before either has a mark or ends
unfoldable pub unlike_at : List ℕ → List ℕ → Bool
unlike_at [] other = false
unlike_at (x ∷ row) [] = false
unlike_at (x ∷ row) (y ∷ other) = (not (eqb x 64) && not (eqb y 64)) && pick (eqb y x) (unlike_at row other) true

-- no place of the other text begins as the row does
unfoldable pub unlike : List ℕ → List ℕ → Bool
unlike row [] = true
unlike row (b ∷ []) = unlike_at row (b ∷ [])
unlike row (b ∷ mark ∷ other) = pick (eqb b 64) (unlike row other) (unlike_at row (b ∷ mark ∷ other) && unlike row (mark ∷ other))
