-- For any arguments one answer and one content of what is lent meet the contract, and no other, in crate `say_report`: by its equalities alone.
-- Made by tools/surface from the source. Assumes nothing.
use Rattle.std.specs.Prelude.{List, length, refl, ℕ, ◌+◌, ◌≡◌}
use Rattle.contracts.specs.SayReportSays.{SayReportPutReportHead, SayReportPutReportRow}
use Rattle.say_report.specs.Page.{report_head, report_line}
use Rattle.site.specs.declared.Site.{Site}
use Rattle.std.proofs.lemmas.List.Edits.{sets}

-- say_report::put_report_row
pub say_report_put_report_row-one : (out : List ℕ) (at : ℕ) (row : ℕ)
    → (r : ℕ) × (out' : List ℕ) × (SayReportPutReportRow out at row r out')
    × ((q : ℕ) (out'' : List ℕ) → SayReportPutReportRow out at row q out'' → (q ≡ r) × (out'' ≡ out'))
say_report_put_report_row-one out at row = (
  at + length (report_line row),
  sets out at (report_line row),
  record { answer = refl; out_after = refl },
  λ q out'' says. (says.answer, says.out_after),
)

-- say_report::put_report_head
pub say_report_put_report_head-one : (out : List ℕ) (at : ℕ) (name : List ℕ) (site : Site)
    → (r : ℕ) × (out' : List ℕ) × (SayReportPutReportHead out at name site r out')
    × ((q : ℕ) (out'' : List ℕ) → SayReportPutReportHead out at name site q out'' → (q ≡ r) × (out'' ≡ out'))
say_report_put_report_head-one out at name site = (
  at + length (report_head name site),
  sets out at (report_head name site),
  record { answer = refl; out_after = refl },
  λ q out'' says. (says.answer, says.out_after),
)
