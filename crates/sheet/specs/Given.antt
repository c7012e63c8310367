-- "Numbers given back": for each case of the reader's answer, the documents' number and the values that come with it, in their order.
-- The writer's are with the records.
use Rattle.std.specs.Prelude.{[], ◌∷◌, Result, Ok, Err}
use Rattle.site.specs.Given.{Given, fault_given}
use Rattle.sheet.specs.declared.SheetError.{SheetError}
use Rattle.sheet.specs.declared.SheetError.TheVariants.{BadLine, Record}

-- 0 done; "17, sheet malformed, with its first bad line"; the record's 1, 24, 3 with the row, and 20 with the position
abbrev pub sheet_given : Result Unit SheetError → Given
sheet_given (Ok u) = record { number = 0; values = [] }
sheet_given (Err (BadLine line)) = record { number = 17; values = line ∷ [] }
sheet_given (Err (Record f)) = fault_given f
