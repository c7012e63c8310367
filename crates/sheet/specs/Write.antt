-- What the sheet's writer answers and leaves.
use Rattle.std.specs.Prelude.{List, ℕ, Result}
use Rattle.laws.specs.Choice.{pick}
use Rattle.records.specs.Write.{written, laid_over}
use Rattle.records.specs.declared.WriteError.{WriteError}
use Rattle.records.specs.declared.WriteError.TheVariants.{Record}
use Rattle.site.specs.Record.{fault_of, is_fine, answer_with}
use Rattle.site.specs.declared.Site.{Site}
use Rattle.sheet.specs.Sheet.{sheet_bytes}

-- "Writers: 1, 2, 3, .. 13"; W8: 20 after 3; W11: 24 after 1. The blocked set and the rule are not written: they come beside the sheet
unfoldable pub sheet_written : Site → List ℕ → Result ℕ WriteError
sheet_written s out = answer_with Record (fault_of s) (written (sheet_bytes s) out)

-- "no other refusal writes"; "output bytes past the file are never written"
unfoldable pub sheet_out : Site → List ℕ → List ℕ
sheet_out s out = pick (is_fine (fault_of s)) (laid_over (sheet_bytes s) out) out
