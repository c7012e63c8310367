-- "Numbers given back": for each case of the answer to a change of form, document 01's number and the values that come with it.
use Rattle.std.specs.Prelude.{[], Result, Ok, Err}
use Rattle.site.specs.Given.{Given, fault_given}
use Rattle.wordtable.specs.declared.FormError.{FormError}
use Rattle.wordtable.specs.declared.FormError.TheVariants.{TableShort, Record}

-- 0 done; 4 with nothing; 1, 24, 2, 3 and 20 as the record's faults
abbrev pub form_given : Result Unit FormError → Given
form_given (Ok u) = record { number = 0; values = [] }
form_given (Err TableShort) = record { number = 4; values = [] }
form_given (Err (Record f)) = fault_given f
