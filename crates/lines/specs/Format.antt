-- The lines of a range sheet as bytes. 48 is the digit 0.
use Rattle.std.specs.Prelude.{ℕ, zero, suc, ◌+◌, ◌/◌, ◌%◌, ◌^◌, List, [], ◌∷◌, ◌++◌}
use Rattle.text.specs.Decimal.{decimal}

-- "a comma-separated sheet"
abbrev pub comma_byte : ℕ
comma_byte = 44

abbrev pub cr_byte : ℕ
cr_byte = 13

abbrev pub lf_byte : ℕ
lf_byte = 10

-- "Every line ends in CR LF"
abbrev pub crlf : List ℕ
crlf = cr_byte ∷ lf_byte ∷ []

-- the number of the cell at index k, from 1
abbrev pub cell_number : ℕ → ℕ
cell_number k = k + 1

-- the number of the line at index k after the first line, which is line 1
abbrev pub line_number : ℕ → ℕ
line_number k = k + 2

-- a number after a comma
unfoldable pub column : ℕ → List ℕ
column x = comma_byte ∷ decimal x

-- the n columns from index k on, each headed by its cell's number, from 1
unfoldable pub columns : ℕ → ℕ → List ℕ
columns k zero = []
columns k (suc n) = column (cell_number k) ++ columns (suc k) n

abbrev pub cell_load : List ℕ
cell_load = 99 ∷ 101 ∷ 108 ∷ 108 ∷ 44 ∷ 108 ∷ 111 ∷ 97 ∷ 100 ∷ []  -- cell,load

-- "a first line `cell,load` then the cell numbers 1 to I"
unfoldable pub header : ℕ → List ℕ
header n = cell_load ++ (columns 0 n ++ crlf)

-- `1` where the cell reaches and `0` where not: the bits of a row
unfoldable pub bits_of : ℕ → ℕ → ℕ
bits_of row b = row / 2 ^ b % 2

-- n marks from index b on, each after a comma; f says which digit each is
unfoldable pub marks : (ℕ → ℕ) → ℕ → ℕ → List ℕ
marks f b zero = []
marks f b (suc n) = comma_byte ∷ (48 + f b) ∷ marks f (suc b) n

-- the cell's number and its comma
unfoldable pub label : ℕ → List ℕ
label k = decimal (cell_number k) ++ (comma_byte ∷ [])

-- "one line per cell with its number, its load and I marks"; the cell at index k
unfoldable pub cell_line : ℕ → ℕ → ℕ → (ℕ → ℕ) → List ℕ
cell_line n k load f = label k ++ (decimal load ++ (marks f 0 n ++ crlf))
