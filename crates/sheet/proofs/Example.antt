-- Sheets byte for byte, and what the reader says of some, computed. They hold the format from a second side: commas, CR LF, cells from 1,
-- marks from left to right in the line of the cell that reaches, lines counted from 1, a mark on oneself as 3, after 1, and 20 after it. Assumes nothing.
use Prim.Native.Nat.{ℕ}
use mathlib.Core.List.{List, [], ◌∷◌, ◌++◌}
use mathlib.Core.Path.{◌≡◌, refl}
use lib.ListN.{replicate}
use Rattle.laws.specs.Search.{first_of}
use Rattle.text.specs.Decimal.{digits_of, decimal}
use Rattle.lines.specs.Match.{starts}
use Rattle.lines.specs.Format.{column, columns, header, bits_of, marks, label, cell_line}
use Rattle.lines.specs.Content.{more, scanned, load_of_line, marks_of_line, mark_of_line, weigh, row_of_line, line_in, line_ok, columns_in, cells_of_line}
use Rattle.lines.specs.Content.{head_ok}
use Rattle.positions.specs.Blocked.{empty_set}
use Rattle.site.specs.Record.{site_of, zero_site, up_to, size_ok, rule_ok, row_bad, extra_load, bad_row, extra_blocked, fault_of}
use Rattle.site.specs.declared.Site.{Site}
use Rattle.site.specs.declared.Fault.TheVariants.{Size, Rule, Reach, Blocked}
use Rattle.sheet.specs.Sheet.{line_of, lines_from, sheet_bytes}
use Rattle.sheet.specs.Read.{from, loads_of_sheet, rows_of_sheet, site_of_sheet, bad_sheet, judged, bad_cell, cells_read, body, read_sheet}
use Rattle.sheet.specs.declared.SheetError.TheVariants.{Record}
use Rattle.std.specs.Prelude.{Ok, Err}

-- ---- written

-- P1 of document 01: 3 slots, 2 channels, loads 5, 1 and 4; cell 2 reaches cells 1 and 3
abbrev p1 : Site
p1 = site_of 3 3 2 (5 ∷ 1 ∷ 4 ∷ replicate 29 0) (0 ∷ 5 ∷ replicate 30 0) empty_set 1

abbrev p1_sheet : List ℕ
p1_sheet =
    99 ∷ 101 ∷ 108 ∷ 108 ∷ 44 ∷ 108 ∷ 111 ∷ 97 ∷ 100 ∷ 44 ∷ 49 ∷ 44 ∷ 50 ∷ 44 ∷ 51 ∷ 13 ∷ 10 ∷  -- cell,load,1,2,3
    49 ∷ 44 ∷ 53 ∷ 44 ∷ 48 ∷ 44 ∷ 48 ∷ 44 ∷ 48 ∷ 13 ∷ 10 ∷  -- 1,5,0,0,0
    50 ∷ 44 ∷ 49 ∷ 44 ∷ 49 ∷ 44 ∷ 48 ∷ 44 ∷ 49 ∷ 13 ∷ 10 ∷  -- 2,1,1,0,1
    51 ∷ 44 ∷ 52 ∷ 44 ∷ 48 ∷ 44 ∷ 48 ∷ 44 ∷ 48 ∷ 13 ∷ 10 ∷ []  -- 3,4,0,0,0

pub p1-written : sheet_bytes p1 ≡ p1_sheet
unfolding sheet_bytes lines_from line_of header columns column cell_line label bits_of marks decimal digits_of
p1-written = refl

-- one way: cell 1 reaches cell 3, and nobody else reaches
abbrev one_way : Site
one_way = site_of 3 1 1 (7 ∷ 0 ∷ 10 ∷ replicate 29 0) (4 ∷ replicate 31 0) empty_set 1

pub one-way-written : sheet_bytes one_way ≡
    99 ∷ 101 ∷ 108 ∷ 108 ∷ 44 ∷ 108 ∷ 111 ∷ 97 ∷ 100 ∷ 44 ∷ 49 ∷ 44 ∷ 50 ∷ 44 ∷ 51 ∷ 13 ∷ 10 ∷
    49 ∷ 44 ∷ 55 ∷ 44 ∷ 48 ∷ 44 ∷ 48 ∷ 44 ∷ 49 ∷ 13 ∷ 10 ∷  -- 1,7,0,0,1
    50 ∷ 44 ∷ 48 ∷ 44 ∷ 48 ∷ 44 ∷ 48 ∷ 44 ∷ 48 ∷ 13 ∷ 10 ∷  -- 2,0,0,0,0
    51 ∷ 44 ∷ 49 ∷ 48 ∷ 44 ∷ 48 ∷ 44 ∷ 48 ∷ 44 ∷ 48 ∷ 13 ∷ 10 ∷ []  -- 3,10,0,0,0
unfolding sheet_bytes lines_from line_of header columns column cell_line label bits_of marks decimal digits_of
one-way-written = refl

-- ---- read

-- two cells of load 0, and the second marks itself: cell,load,1,2 and 1,0,0,0 and 2,0,0,1
abbrev marked : List ℕ
marked =
    99 ∷ 101 ∷ 108 ∷ 108 ∷ 44 ∷ 108 ∷ 111 ∷ 97 ∷ 100 ∷ 44 ∷ 49 ∷ 44 ∷ 50 ∷ 13 ∷ 10 ∷
    49 ∷ 44 ∷ 48 ∷ 44 ∷ 48 ∷ 44 ∷ 48 ∷ 13 ∷ 10 ∷
    50 ∷ 44 ∷ 48 ∷ 44 ∷ 48 ∷ 44 ∷ 49 ∷ 13 ∷ 10 ∷ []

-- the first line of one cell: cell,load,1
abbrev alone : List ℕ
alone = 99 ∷ 101 ∷ 108 ∷ 108 ∷ 44 ∷ 108 ∷ 111 ∷ 97 ∷ 100 ∷ 44 ∷ 49 ∷ 13 ∷ 10 ∷ []

pub sheets-read :
    -- P1 is read
    read_sheet p1_sheet 3 2 empty_set 1
    -- with position 6 blocked, which it does not have, it is 20
    ∷ read_sheet p1_sheet 3 2 (64 ∷ replicate 31 0) 1
    -- a mark on oneself is 3 with the row; and 1 comes before it, where there are no slots
    ∷ read_sheet marked 1 1 empty_set 1
    ∷ read_sheet marked 0 1 empty_set 3
    -- 24 comes between them: rule 3
    ∷ read_sheet marked 1 1 empty_set 3
    -- nothing at all has no first line; a first line alone lacks line 2; a space after the last line is line 3
    ∷ read_sheet [] 1 1 empty_set 1
    ∷ read_sheet alone 1 1 empty_set 1
    ∷ read_sheet (alone ++ (49 ∷ 44 ∷ 48 ∷ 44 ∷ 48 ∷ 13 ∷ 10 ∷ 32 ∷ [])) 1 1 empty_set 1
    -- 1,00,0 and 01,0,0: "Numbers have no leading zeros"
    ∷ read_sheet (alone ++ (49 ∷ 44 ∷ 48 ∷ 48 ∷ 44 ∷ 48 ∷ 13 ∷ 10 ∷ [])) 1 1 empty_set 1
    ∷ read_sheet (alone ++ (48 ∷ 49 ∷ 44 ∷ 48 ∷ 44 ∷ 48 ∷ 13 ∷ 10 ∷ [])) 1 1 empty_set 1
    ∷ []
    ≡ record { site = p1; answer = Ok tt }
    ∷ record { site = zero_site; answer = Err (Record (Blocked 6)) }
    ∷ record { site = zero_site; answer = Err (Record (Reach 2)) }
    ∷ record { site = zero_site; answer = Err (Record Size) }
    ∷ record { site = zero_site; answer = Err (Record Rule) }
    ∷ bad_sheet 1
    ∷ bad_sheet 2
    ∷ bad_sheet 3
    ∷ bad_sheet 2
    ∷ bad_sheet 2
    ∷ []
unfolding read_sheet head_ok cells_of_line columns_in starts header columns column decimal digits_of body cells_read bad_cell first_of from line_ok
    load_of_line scanned more
    label line_in cell_line marks_of_line mark_of_line marks row_of_line weigh site_of_sheet loads_of_sheet rows_of_sheet judged fault_of size_ok up_to rule_ok
    extra_load
    bad_row row_bad
    extra_blocked
sheets-read = refl
