-- "Numbers given back": for each case of a check's answer, document 01's number and the values that come with it, in its order.
use Rattle.std.specs.Prelude.{[], ◌∷◌, Result, Ok, Err}
use Rattle.site.specs.Given.{Given, fault_given}
use Rattle.checker.specs.declared.CheckError.{CheckError}
use Rattle.checker.specs.declared.CheckError.TheVariants.{TableShort, Blocked, Clash, Count, Record}

-- 0 done; 4 with nothing; 6 with position, first cell, second cell; 7 with cell, count; W8: 22 with position, cell; 1, 24, 2, 3 and 20 as the record's faults
abbrev pub check_given : Result Unit CheckError → Given
check_given (Ok u) = record { number = 0; values = [] }
check_given (Err TableShort) = record { number = 4; values = [] }
check_given (Err (Blocked position cell)) = record { number = 22; values = position ∷ cell ∷ [] }
check_given (Err (Clash position a c)) = record { number = 6; values = position ∷ a ∷ c ∷ [] }
check_given (Err (Count cell n)) = record { number = 7; values = cell ∷ n ∷ [] }
check_given (Err (Record f)) = fault_given f
