-- Each call passes on the record's own fault, the reader after 17, the writer before 13. Assumes nothing.
use Prim.Native.Nat.{ℕ}
use mathlib.Core.Path.{◌≡◌}
use mathlib.Core.Bool.{Bool, true, false}
use mathlib.Core.List.{List}
use mathlib.Core.Logic.{◌↔◌}
use native.Mathlib.Omega.{arith}
use lib.Dec.{ltb}
use lib.ListN.{length}
use Rattle.laws.specs.Choice.{pick}
use Rattle.std.specs.Prelude.{Result, Ok, Err}
use Rattle.records.specs.declared.WriteError.TheVariants.{Record}
use Rattle.records.proofs.PassedOn.{written-refused}
use Rattle.site.specs.Record.{fault_of}
use Rattle.site.specs.declared.Site.{Site}
use Rattle.site.specs.declared.Fault.{Fault}
use Rattle.lines.specs.Format.{line_number}
use Rattle.lines.specs.Content.{cells_of_line, head_ok}
use Rattle.sheet.specs.Read.{from, bad_cell, body, site_of_sheet, judged, judged_as, bad_sheet, cells_read, read_sheet}
use Rattle.sheet.specs.Sheet.{sheet_bytes}
use Rattle.sheet.specs.Write.{sheet_written}
use Rattle.sheet.specs.declared.SheetRead.{SheetRead}
use Rattle.sheet.specs.declared.SheetError.TheVariants as read

-- ---- the reader

passed : (s : Site) (f : Result Unit Fault) (g : Fault) → (judged_as s f).answer ≡ Err (read.Record g) → f ≡ Err g
passed s (Ok u) g e = let z : ◌≡◌ {A = ℕ} 0 1 = cc in absurd (omega arith)
passed s (Err f) g e = cc

said : (t u v : Bool) (a b c : ℕ) (j : SheetRead) (f : Fault)
    → (pick t (pick u (bad_sheet a) (pick v (bad_sheet b) j)) (bad_sheet c)).answer ≡ Err (read.Record f) → j.answer ≡ Err (read.Record f)
unfolding bad_sheet
said false u v a b c j f e = let z : ◌≡◌ {A = ℕ} 0 1 = cc in absurd (omega arith)
said true true v a b c j f e = let z : ◌≡◌ {A = ℕ} 0 1 = cc in absurd (omega arith)
said true false true a b c j f e = let z : ◌≡◌ {A = ℕ} 0 1 = cc in absurd (omega arith)
said true false false a b c j f e = e

-- a refusal after 17 is the fault of the record that the lines make
pub read_told : (b : List ℕ) (slots channels : ℕ) (blocked : List ℕ) (rule : ℕ) (f : Fault)
    → (read_sheet b slots channels blocked rule).answer ≡ Err (read.Record f)
    → fault_of (site_of_sheet (cells_of_line b) (body b) slots channels blocked rule) ≡ Err f
unfolding read_sheet cells_read judged
read_told b slots channels blocked rule f e =
    let n = cells_of_line b in
    let s = site_of_sheet n (body b) slots channels blocked rule in
    passed s (fault_of s) f
    (said (head_ok b) (ltb (bad_cell n (body b)) n) (ltb 0 (length (from n (body b) n))) (line_number (bad_cell n (body b))) (line_number n) 1 (judged s) f e)

-- ---- the writer

-- the writer's refusal is the record's own fault, exactly where there is one
pub sheet-written-refused : (s : Site) (out : List ℕ) (f : Fault) → sheet_written s out ≡ Err (Record f) ↔ (fault_of s ≡ Err f)
unfolding sheet_written
sheet-written-refused s out = written-refused s (sheet_bytes s) out
