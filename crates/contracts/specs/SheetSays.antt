-- The equalities that the contracts of crate `sheet` state: r is the answer, and x' what a lent x holds afterwards.
-- Made by tools/surface from the source.
use Rattle.std.specs.Prelude.{List, Result, ℕ, ◌≡◌}
use Rattle.records.specs.declared.WriteError.{WriteError}
use Rattle.sheet.specs.Read.{read_sheet}
use Rattle.sheet.specs.Write.{sheet_out, sheet_written}
use Rattle.sheet.specs.declared.SheetRead.{SheetRead}
use Rattle.site.specs.declared.Site.{Site}

-- sheet::read_sheet
pub record ReadSheet (bytes : List ℕ) (slots : ℕ) (channels : ℕ) (blocked : List ℕ) (rule : ℕ) (r : SheetRead) : Type 0 where
  pub answer : r ≡ read_sheet bytes slots channels blocked rule

-- sheet::write_sheet
pub record WriteSheet (site : Site) (out : List ℕ) (r : Result ℕ WriteError) (out' : List ℕ) : Type 0 where
  pub answer : r ≡ sheet_written site out
  pub out_after : out' ≡ sheet_out site out
