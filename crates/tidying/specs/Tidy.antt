-- What tidying a sheet answers and leaves. The reader stays strict: it alone says whether the tidied sheet is one.
use Rattle.std.specs.Prelude.{ℕ, List, length, take, leb, eqb, Result, Ok, Err}
use Rattle.laws.specs.Choice.{pick}
use Rattle.positions.specs.Blocked.{empty_set}
use Rattle.records.specs.Write.{laid_over}
use Rattle.sheet.specs.Read.{read_sheet}
use Rattle.sheet.specs.declared.SheetError.{SheetError}
use Rattle.sheet.specs.declared.SheetError.TheVariants as sheet
use Rattle.cleaning.specs.Clean.{cleaned}
use Rattle.tidying.specs.declared.TidyError.{TidyError}
use Rattle.tidying.specs.declared.TidyError.TheVariants.{OutShort, BadLine}

-- no sheet has as many bytes as this
abbrev pub most_bytes : ℕ
most_bytes = 4096

-- the sheet in the form of the format; what cannot be tidied in it keeps a quote, and what is past the most bytes is left out
unfoldable pub tidied : List ℕ → List ℕ
tidied s = take most_bytes (cleaned s)

-- the line of an answer; 0 where it has none
abbrev pub answer_line : Result Unit SheetError → ℕ
answer_line (Ok u) = 0
answer_line (Err (sheet.BadLine line)) = line
answer_line (Err (sheet.Record f)) = 0

-- the first bad line by the strict reader, from 1; 0 where no line is bad. Lines do not hang on slots, channels, blocked positions and rule
unfoldable pub bad_line_of : List ℕ → ℕ
bad_line_of b = answer_line (read_sheet b 1 1 empty_set 1).answer

-- 17 with the first line that cannot be tidied; 13 with the bytes needed; or the bytes written
unfoldable pub laid_answer : List ℕ → List ℕ → Result ℕ TidyError
laid_answer file out = pick (leb (length file) (length out)) (Ok (length file)) (Err (OutShort (length file)))

-- a sheet in its own form, judged by the strict reader
unfoldable pub judged_answer : List ℕ → List ℕ → Result ℕ TidyError
judged_answer file out = pick (eqb (bad_line_of file) 0) (laid_answer file out) (Err (BadLine (bad_line_of file)))

-- "no other refusal writes": the sheet where it is done, and nothing else
unfoldable pub judged_out : List ℕ → List ℕ → List ℕ
judged_out file out = pick (eqb (bad_line_of file) 0) (laid_over file out) out

unfoldable pub tidy_answer : List ℕ → List ℕ → Result ℕ TidyError
tidy_answer s out = judged_answer (tidied s) out

unfoldable pub tidy_out : List ℕ → List ℕ → List ℕ
tidy_out s out = judged_out (tidied s) out
