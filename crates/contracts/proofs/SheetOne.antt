-- For any arguments one answer and one content of what is lent meet the contract, and no other, in crate `sheet`: by its equalities alone.
-- Made by tools/surface from the source. Assumes nothing.
use Rattle.std.specs.Prelude.{List, Result, refl, ℕ, ◌≡◌}
use Rattle.contracts.specs.SheetSays.{ReadSheet, WriteSheet}
use Rattle.records.specs.declared.WriteError.{WriteError}
use Rattle.sheet.specs.Read.{read_sheet}
use Rattle.sheet.specs.Write.{sheet_out, sheet_written}
use Rattle.sheet.specs.declared.SheetRead.{SheetRead}
use Rattle.site.specs.declared.Site.{Site}

-- sheet::read_sheet
pub read_sheet-one : (bytes : List ℕ) (slots : ℕ) (channels : ℕ) (blocked : List ℕ) (rule : ℕ)
    → (r : SheetRead) × (ReadSheet bytes slots channels blocked rule r)
    × ((q : SheetRead) → ReadSheet bytes slots channels blocked rule q → (q ≡ r))
read_sheet-one bytes slots channels blocked rule = (
  read_sheet bytes slots channels blocked rule,
  record { answer = refl },
  λ q says. says.answer,
)

-- sheet::write_sheet
pub write_sheet-one : (site : Site) (out : List ℕ)
    → (r : Result ℕ WriteError) × (out' : List ℕ) × (WriteSheet site out r out')
    × ((q : Result ℕ WriteError) (out'' : List ℕ) → WriteSheet site out q out'' → (q ≡ r) × (out'' ≡ out'))
write_sheet-one site out = (
  sheet_written site out,
  sheet_out site out,
  record { answer = refl; out_after = refl },
  λ q out'' says. (says.answer, says.out_after),
)
