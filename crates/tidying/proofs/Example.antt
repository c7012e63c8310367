-- Sheets tidied, computed: an export with semicolons, quotes, LF and the mark of the byte order; and sheets that cannot be tidied. Assumes nothing.
use Prim.Native.Nat.{ℕ}
use mathlib.Core.List.{List, [], ◌∷◌, ◌++◌}
use mathlib.Core.Path.{◌≡◌, refl}
use lib.ListN.{replicate}
use Rattle.laws.specs.Search.{first_of}
use Rattle.text.specs.Decimal.{digits_of, decimal}
use Rattle.lines.specs.Match.{starts}
use Rattle.lines.specs.Format.{column, columns, header, marks, label, cell_line}
use Rattle.lines.specs.Content.{more, scanned, load_of_line, marks_of_line, mark_of_line, weigh, row_of_line, line_in, line_ok, columns_in, cells_of_line}
use Rattle.lines.specs.Content.{head_ok}
use Rattle.site.specs.Record.{up_to, size_ok, rule_ok, row_bad, extra_load, bad_row, extra_blocked, fault_of}
use Rattle.sheet.specs.Read.{from, loads_of_sheet, rows_of_sheet, site_of_sheet, bad_sheet, judged, bad_cell, cells_read, body, read_sheet}
use Rattle.cleaning.specs.Clean.{is_separator, separator_in, next_column, on_blank, on_quote, is_reach, is_late, on_content, mend_of, comma_change}
use Rattle.cleaning.specs.Clean.{on_separator}
use Rattle.cleaning.specs.Clean.{on_cr, on_lf, after_cr, on_field, step_of, is_fresh, end_of, byte_out, out_of, clean_from, begins, cleaned}
use Rattle.tidying.specs.Tidy.{tidied, bad_line_of, laid_answer, judged_answer, tidy_answer}
use Rattle.std.specs.Prelude.{Ok, Err}
use Rattle.tidying.specs.declared.TidyError.TheVariants.{OutShort, BadLine}

-- the mark of the byte order, then "cell";"load";1;2 with LF alone
abbrev first : List ℕ
first = 239 ∷ 187 ∷ 191 ∷ 34 ∷ 99 ∷ 101 ∷ 108 ∷ 108 ∷ 34 ∷ 59 ∷ 34 ∷ 108 ∷ 111 ∷ 97 ∷ 100 ∷ 34 ∷ 59 ∷ 49 ∷ 59 ∷ 50 ∷ 10 ∷ []

-- 1; 5;;"x"
abbrev second : List ℕ
second = 49 ∷ 59 ∷ 32 ∷ 53 ∷ 59 ∷ 59 ∷ 34 ∷ 120 ∷ 34 ∷ 10 ∷ []

-- 2;7;x;0 without any end
abbrev third : List ℕ
third = 50 ∷ 59 ∷ 55 ∷ 59 ∷ 120 ∷ 59 ∷ 48 ∷ []

pub sheets-tidied :
    tidy_answer (first ++ (second ++ third)) (replicate 33 0)
    -- 13: a byte too few
    ∷ tidy_answer (first ++ (second ++ third)) (replicate 32 0)
    -- 17: 2;"7;x;0 has a quote that is not closed; 1;5,0;;x has a comma in its load; and nothing at all
    ∷ tidy_answer (first ++ (second ++ (50 ∷ 59 ∷ 34 ∷ 55 ∷ 59 ∷ 120 ∷ 59 ∷ 48 ∷ []))) []
    ∷ tidy_answer (first ++ (49 ∷ 59 ∷ 53 ∷ 44 ∷ 48 ∷ 59 ∷ 59 ∷ 120 ∷ 10 ∷ [])) []
    ∷ tidy_answer [] []
    ∷ []
    ≡ Ok 33 ∷ Err (OutShort 33) ∷ Err (BadLine 3) ∷ Err (BadLine 2) ∷ Err (BadLine 1) ∷ []
unfolding tidy_answer judged_answer laid_answer tidied bad_line_of
    cleaned clean_from begins starts separator_in is_separator next_column on_blank on_quote is_reach is_late on_content mend_of comma_change on_separator on_cr
    on_lf
    after_cr on_field step_of is_fresh end_of byte_out out_of
    read_sheet head_ok cells_of_line columns_in header columns column decimal digits_of body cells_read bad_cell first_of from line_ok
    load_of_line scanned more
    label line_in cell_line marks_of_line mark_of_line marks row_of_line weigh site_of_sheet loads_of_sheet rows_of_sheet judged fault_of size_ok up_to rule_ok
    extra_load
    bad_row row_bad
    extra_blocked bad_sheet
sheets-tidied = refl
