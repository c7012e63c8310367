-- What reading a sheet answers, over its lines: the first bad line, then what is wrong with the record that the lines make.
use Rattle.std.specs.Prelude.{ℕ, zero, suc, not, List, length, drop, set, replicate, ltb, Result, Ok, Err}
use Rattle.laws.specs.Choice.{pick}
use Rattle.laws.specs.Search.{first}
use Rattle.lines.specs.Format.{header, line_number}
use Rattle.lines.specs.Content.{cells_of_line, head_ok, load_of_line, row_of_line, line_in, line_ok}
use Rattle.site.specs.Record.{site_of, zero_site, fault_of}
use Rattle.site.specs.declared.Site.{Site}
use Rattle.site.specs.declared.Fault.{Fault}
use Rattle.sheet.specs.declared.SheetError.{SheetError}
use Rattle.sheet.specs.declared.SheetError.TheVariants.{BadLine, Record}
use Rattle.sheet.specs.declared.SheetRead.{SheetRead}

-- ---- the lines of n cells, in r, which is what stands after the first line

-- from where the line of the cell at index k begins: after the line before it
unfoldable pub from : ℕ → List ℕ → ℕ → List ℕ
from n r zero = r
from n r (suc k) = drop (length (line_in n k (from n r k))) (from n r k)

-- the loads and the rows of the first k cells
unfoldable pub loads_of_sheet : ℕ → List ℕ → ℕ → List ℕ
loads_of_sheet n r zero = replicate 32 0
loads_of_sheet n r (suc k) = set (loads_of_sheet n r k) k (load_of_line k (from n r k))

unfoldable pub rows_of_sheet : ℕ → List ℕ → ℕ → List ℕ
rows_of_sheet n r zero = replicate 32 0
rows_of_sheet n r (suc k) = set (rows_of_sheet n r k) k (row_of_line n k (from n r k))

-- the site that they make; "Slots and channels come beside it." W8: "The sheet is given its blocked set beside it."
-- W11: "the sheet is given its rule beside it"
unfoldable pub site_of_sheet : ℕ → List ℕ → ℕ → ℕ → List ℕ → ℕ → Site
site_of_sheet n r slots channels blocked rule = site_of n slots channels (loads_of_sheet n r n) (rows_of_sheet n r n) blocked rule

-- ---- the answer

-- a site that is read; and of every refusal: "each gives a site of zeros"
abbrev pub sheet_done : Site → SheetRead
sheet_done s = record { site = s; answer = Ok tt }

abbrev pub refused_sheet : SheetError → SheetRead
refused_sheet e = record { site = zero_site; answer = Err e }

-- "17, sheet malformed, with its first bad line"
unfoldable pub bad_sheet : ℕ → SheetRead
bad_sheet line = refused_sheet (BadLine line)

-- "after it 1, then 3 for a mark on oneself", W8's 20 after 3 and W11's 24 after 1: the record's own fault
abbrev pub judged_as : Site → Result Unit Fault → SheetRead
judged_as s (Ok u) = sheet_done s
judged_as s (Err f) = refused_sheet (Record f)

unfoldable pub judged : Site → SheetRead
judged s = judged_as s (fault_of s)

-- the index of the first line that is not good; n where all are
unfoldable pub bad_cell : ℕ → List ℕ → ℕ
bad_cell n r = first (λ k. not (line_ok n k (from n r k))) 0 n

-- the lines of n cells, and nothing after them: "missing and extra lines count"
unfoldable pub cells_read : ℕ → List ℕ → ℕ → ℕ → List ℕ → ℕ → SheetRead
cells_read n r slots channels blocked rule =
    pick (ltb (bad_cell n r) n) (bad_sheet (line_number (bad_cell n r)))
    (pick (ltb 0 (length (from n r n))) (bad_sheet (line_number n)) (judged (site_of_sheet n r slots channels blocked rule)))

-- what stands after the first line
unfoldable pub body : List ℕ → List ℕ
body b = drop (length (header (cells_of_line b))) b

-- the first line, and then those of the cells
unfoldable pub read_sheet : List ℕ → ℕ → ℕ → List ℕ → ℕ → SheetRead
read_sheet b slots channels blocked rule = pick (head_ok b) (cells_read (cells_of_line b) (body b) slots channels blocked rule) (bad_sheet 1)
