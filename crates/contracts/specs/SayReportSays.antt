-- The equalities that the contracts of crate `say_report` state: r is the answer, and x' what a lent x holds afterwards.
-- Made by tools/surface from the source.
use Rattle.std.specs.Prelude.{List, length, ℕ, ◌+◌, ◌≡◌}
use Rattle.say_report.specs.Page.{report_head, report_line}
use Rattle.site.specs.declared.Site.{Site}
use Rattle.std.proofs.lemmas.List.Edits.{sets}

-- say_report::put_report_row
pub record SayReportPutReportRow (out : List ℕ) (at : ℕ) (row : ℕ) (r : ℕ) (out' : List ℕ) : Type 0 where
  pub answer : r ≡ at + length (report_line row)
  pub out_after : out' ≡ sets out at (report_line row)

-- say_report::put_report_head
pub record SayReportPutReportHead (out : List ℕ) (at : ℕ) (name : List ℕ) (site : Site) (r : ℕ) (out' : List ℕ) : Type 0 where
  pub answer : r ≡ at + length (report_head name site)
  pub out_after : out' ≡ sets out at (report_head name site)
