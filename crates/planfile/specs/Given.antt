-- "Numbers given back": for each case of the writer's answer, document 01's number and the values that come with it. The reader's are with the records.
use Rattle.std.specs.Prelude.{ℕ, [], ◌∷◌, Result, Ok, Err}
use Rattle.site.specs.Given.{Given, fault_given}
use Rattle.planfile.specs.declared.PlanWriteError.{PlanWriteError}
use Rattle.planfile.specs.declared.PlanWriteError.TheVariants.{TableShort, OutShort, Record}

-- "A writer that is done answers the number of bytes written"; 13 with the "bytes needed"
abbrev pub plan_written_given : Result ℕ PlanWriteError → Given
plan_written_given (Ok n) = record { number = 0; values = n ∷ [] }
plan_written_given (Err TableShort) = record { number = 4; values = [] }
plan_written_given (Err (OutShort n)) = record { number = 13; values = n ∷ [] }
plan_written_given (Err (Record f)) = fault_given f
