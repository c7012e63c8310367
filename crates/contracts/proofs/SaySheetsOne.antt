-- For any arguments one answer and one content of what is lent meet the contract, and no other, in crate `say_sheets`: by its equalities alone.
-- Made by tools/surface from the source. Assumes nothing.
use Rattle.std.specs.Prelude.{List, Result, length, refl, ℕ, ◌+◌, ◌≡◌}
use Rattle.contracts.specs.SaySheetsSays.{SaySheetsPutMade, SaySheetsPutSheetRefused, SaySheetsPutTidy}
use Rattle.say_sheets.specs.Said.{made_said, sheet_refused_said, tidy_said}
use Rattle.sheet.specs.declared.SheetError.{SheetError}
use Rattle.site.specs.declared.Site.{Site}
use Rattle.std.proofs.lemmas.List.Edits.{sets}
use Rattle.tidying.specs.declared.TidyError.{TidyError}

-- say_sheets::put_sheet_refused
pub say_sheets_put_sheet_refused-one : (out : List ℕ) (at : ℕ) (sheet : List ℕ) (reply : Result Unit SheetError)
    → (r : ℕ) × (out' : List ℕ) × (SaySheetsPutSheetRefused out at sheet reply r out')
    × ((q : ℕ) (out'' : List ℕ) → SaySheetsPutSheetRefused out at sheet reply q out'' → (q ≡ r) × (out'' ≡ out'))
say_sheets_put_sheet_refused-one out at sheet reply = (
  at + length (sheet_refused_said sheet reply),
  sets out at (sheet_refused_said sheet reply),
  record { answer = refl; out_after = refl },
  λ q out'' says. (says.answer, says.out_after),
)

-- say_sheets::put_tidy
pub say_sheets_put_tidy-one : (out : List ℕ) (at : ℕ) (sheet : List ℕ) (reply : Result ℕ TidyError)
    → (r : ℕ) × (out' : List ℕ) × (SaySheetsPutTidy out at sheet reply r out')
    × ((q : ℕ) (out'' : List ℕ) → SaySheetsPutTidy out at sheet reply q out'' → (q ≡ r) × (out'' ≡ out'))
say_sheets_put_tidy-one out at sheet reply = (
  at + length (tidy_said sheet reply),
  sets out at (tidy_said sheet reply),
  record { answer = refl; out_after = refl },
  λ q out'' says. (says.answer, says.out_after),
)

-- say_sheets::put_made
pub say_sheets_put_made-one : (out : List ℕ) (at : ℕ) (site : Site)
    → (r : ℕ) × (out' : List ℕ) × (SaySheetsPutMade out at site r out')
    × ((q : ℕ) (out'' : List ℕ) → SaySheetsPutMade out at site q out'' → (q ≡ r) × (out'' ≡ out'))
say_sheets_put_made-one out at site = (
  at + length (made_said site),
  sets out at (made_said site),
  record { answer = refl; out_after = refl },
  λ q out'' says. (says.answer, says.out_after),
)
