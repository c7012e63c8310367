-- The plan file as it is written: its bytes, what the writer answers, and what it leaves in the output.
use Rattle.std.specs.Prelude.{ℕ, List, ◌++◌, length, ltb, leb, Result, Ok, Err}
use Rattle.laws.specs.Choice.{pick}
use Rattle.records.specs.Layout.{record_of}
use Rattle.records.specs.Head.{head_record}
use Rattle.records.specs.Write.{laid_over}
use Rattle.site.specs.Record.{entries, size, is_fine, fault_of, answer_with}
use Rattle.site.specs.declared.Site.{Site}
use Rattle.planbits.specs.Bits.{packed}
use Rattle.planfile.specs.declared.PlanWriteError.{PlanWriteError}
use Rattle.planfile.specs.declared.PlanWriteError.TheVariants.{TableShort, OutShort, Record}

-- "A plan file is kinds 1, 4."
unfoldable pub plan_bytes : (cells slots channels : ℕ) → List ℕ → List ℕ
plan_bytes cells slots channels table = head_record cells slots channels ++ record_of 4 (packed table (entries cells slots channels))

-- "The plan writer is given the site and its table."
abbrev pub plan_file : Site → List ℕ → List ℕ
plan_file s table = plan_bytes s.cells s.slots s.channels table

-- "Writers: 1, 2, 3, 4 where there is a table, 13." "A writer that is done answers the number of bytes written."
unfoldable pub plan_written : Site → List ℕ → List ℕ → Result ℕ PlanWriteError
plan_written s table out =
    answer_with Record (fault_of s)
    (pick (ltb (length table) (size s)) (Err TableShort)
    (pick (leb (length (plan_file s table)) (length out)) (Ok (length (plan_file s table))) (Err (OutShort (length (plan_file s table))))))

-- "no other refusal writes"
unfoldable pub plan_out : Site → List ℕ → List ℕ → List ℕ
plan_out s table out =
    pick (is_fine (fault_of s))
    (pick (ltb (length table) (size s)) out (laid_over (plan_file s table) out))
    out
