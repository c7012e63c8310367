-- The equalities that the contracts of crate `say_sheets` state: r is the answer, and x' what a lent x holds afterwards.
-- Made by tools/surface from the source.
use Rattle.std.specs.Prelude.{List, Result, length, ℕ, ◌+◌, ◌≡◌}
use Rattle.say_sheets.specs.Said.{made_said, sheet_refused_said, tidy_said}
use Rattle.sheet.specs.declared.SheetError.{SheetError}
use Rattle.site.specs.declared.Site.{Site}
use Rattle.std.proofs.lemmas.List.Edits.{sets}
use Rattle.tidying.specs.declared.TidyError.{TidyError}

-- say_sheets::put_sheet_refused
pub record SaySheetsPutSheetRefused (out : List ℕ) (at : ℕ) (sheet : List ℕ) (reply : Result Unit SheetError) (r : ℕ) (out' : List ℕ) : Type 0 where
  pub answer : r ≡ at + length (sheet_refused_said sheet reply)
  pub out_after : out' ≡ sets out at (sheet_refused_said sheet reply)

-- say_sheets::put_tidy
pub record SaySheetsPutTidy (out : List ℕ) (at : ℕ) (sheet : List ℕ) (reply : Result ℕ TidyError) (r : ℕ) (out' : List ℕ) : Type 0 where
  pub answer : r ≡ at + length (tidy_said sheet reply)
  pub out_after : out' ≡ sets out at (tidy_said sheet reply)

-- say_sheets::put_made
pub record SaySheetsPutMade (out : List ℕ) (at : ℕ) (site : Site) (r : ℕ) (out' : List ℕ) : Type 0 where
  pub answer : r ≡ at + length (made_said site)
  pub out_after : out' ≡ sets out at (made_said site)
