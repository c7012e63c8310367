-- What a line says, of any bytes at all; and whether it is a line of the format: whether the bytes start with the line that its own content gives.
-- r is the input from where the line begins.
use Rattle.std.specs.Prelude.{ℕ, zero, suc, ◌+◌, ◌-◌, ◌*◌, ◌/◌, ◌%◌, ◌^◌, Bool, ◌&&◌, List, [], ◌∷◌, length, drop, get_or, ltb, leb, eqb, Option, Some, None}
use Rattle.std.specs.Int.Bits.{bit_and}
use Rattle.laws.specs.Choice.{pick}
use Rattle.laws.specs.Sum.{bit}
use Rattle.text.specs.Decimal.{decimal}
use Rattle.lines.specs.Match.{starts, eaten, nowhere}
use Rattle.lines.specs.Format.{comma_byte, cell_number, column, columns, marks, label, header, cell_line}
use Rattle.lines.specs.declared.Number.{Number}
use Rattle.lines.specs.declared.Marks.{Marks}
use Rattle.lines.specs.declared.Line.{Line}
use Rattle.lines.specs.declared.Head.{Head}

-- one more digit is taken while the number has at most four, so that none is above 99,999
unfoldable pub more : ℕ → ℕ → Bool
more v d = ltb v 10000 && (leb 48 d && leb d 57)

-- the number v, and the digits that r starts with
unfoldable pub scanned : ℕ → List ℕ → ℕ
scanned v [] = v
scanned v (d ∷ r) = pick (more v d) (scanned (10 * v + (d - 48)) r) v

-- a number read at `at`: accepted where it is at most the bound and the bytes there are those that the decimal writer gives
unfoldable pub number_read : List ℕ → ℕ → ℕ → Number
number_read s at most =
    record { value = scanned 0 (drop at s); next = pick (leb (scanned 0 (drop at s)) most) (eaten s at (decimal (scanned 0 (drop at s)))) nowhere }

-- the load of the cell line: the number after its label
unfoldable pub load_of_line : ℕ → List ℕ → ℕ
load_of_line k r = scanned 0 (drop (length (label k)) r)

-- from where its marks begin
unfoldable pub marks_of_line : ℕ → List ℕ → List ℕ
marks_of_line k r = drop (length (label k) + length (decimal (load_of_line k r))) r

-- the marks that stand in r: 1 where the byte is the digit 1
unfoldable pub mark_of_line : List ℕ → ℕ → ℕ
mark_of_line r b = bit (eqb (get_or r (2 * b + 1) 0) 49)

-- the row of n marks from index b on: its lowest bit is the first
unfoldable pub weigh : (ℕ → ℕ) → ℕ → ℕ → ℕ
weigh f b zero = 0
weigh f b (suc n) = f b + 2 * weigh f (suc b) n

-- a comma and a mark, and all after them is well
unfoldable pub mark_ok : ℕ → ℕ → Bool → Bool
mark_ok comma x ok = eqb comma comma_byte && (eqb x (48 + bit (eqb x 49)) && ok)

-- the row of the m marks from index b on, where they stand in r; 16 where they do not, which no row of four is
unfoldable pub row_of_marks : List ℕ → ℕ → ℕ → ℕ
row_of_marks r b m = pick (starts (marks (mark_of_line r) b m) (drop (2 * b) r)) (weigh (mark_of_line r) b m) 16

-- two bytes as a number, the first the lower
unfoldable pub pair_at : List ℕ → ℕ → ℕ
pair_at s p = get_or s p 0 + 256 * get_or s (p + 1) 0

-- four commas and marks in one word, the first the lowest. The word of four times `,0`, 12332, is left where the lowest bit of each mark is cleared; those
-- four bits, each 16 above the one before, are then moved together
abbrev pub marks_off : ℕ
marks_off = 3471202379140706348

abbrev pub four_row : ℕ → ℕ
four_row y = (y + y / 2 ^ 15 + y / 2 ^ 30 + y / 2 ^ 45) % 16

unfoldable pub four_in : ℕ → ℕ
four_in w = pick (eqb (bit_and w 18374685380143218431) marks_off) (four_row ((w - marks_off) / 2 ^ 8)) 16

abbrev pub no_marks : Marks
no_marks = record { row = 0; next = nowhere }

-- n marks read at `at`
unfoldable pub marks_read : List ℕ → ℕ → ℕ → Marks
marks_read s at n =
    pick (starts (marks (mark_of_line (drop at s)) 0 n) (drop at s))
    (record { row = weigh (mark_of_line (drop at s)) 0 n; next = at + 2 * n })
    no_marks

unfoldable pub row_of_line : ℕ → ℕ → List ℕ → ℕ
row_of_line n k r = weigh (mark_of_line (marks_of_line k r)) 0 n

-- the line that this content gives
unfoldable pub line_in : ℕ → ℕ → List ℕ → List ℕ
line_in n k r = cell_line n k (load_of_line k r) (mark_of_line (marks_of_line k r))

-- "a load above 65,535 is malformed"
unfoldable pub line_ok : ℕ → ℕ → List ℕ → Bool
line_ok n k r = leb (load_of_line k r) 65535 && starts (line_in n k r) r

-- a line read at `at`: its content and the place after it
unfoldable pub line_read : List ℕ → ℕ → ℕ → ℕ → Option Line
line_read s at n k =
    pick (line_ok n k (drop at s))
    (Some (record { load = load_of_line k (drop at s); row = row_of_line n k (drop at s); next = at + length (line_in n k (drop at s)) }))
    None

-- ---- the first line

-- how many of the next n columns from index k on stand there, and those before
unfoldable pub columns_in : ℕ → ℕ → List ℕ → ℕ
columns_in zero k r = k
columns_in (suc n) k r = pick (starts (column (cell_number k)) r) (columns_in n (suc k) (drop (length (column (cell_number k))) r)) k

unfoldable pub columns_read : List ℕ → ℕ → Head
columns_read s at = record { cells = columns_in 32 0 (drop at s); next = eaten s at (columns 0 (columns_in 32 0 (drop at s))) }

-- "a first line with no cells or over 32" is malformed
unfoldable pub cells_of_line : List ℕ → ℕ
cells_of_line r = columns_in 32 0 (drop 9 r)

unfoldable pub head_ok : List ℕ → Bool
head_ok r = leb 1 (cells_of_line r) && starts (header (cells_of_line r)) r

abbrev pub no_head : Head
no_head = record { cells = 0; next = nowhere }

-- the first line read: how many cells, and the place after it
unfoldable pub head_read : List ℕ → Head
head_read s = pick (head_ok s) (record { cells = cells_of_line s; next = length (header (cells_of_line s)) }) no_head
