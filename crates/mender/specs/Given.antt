-- "Numbers given back": for each case of the mender's answer, its number and the values that come with it, in their order.
use Rattle.std.specs.Prelude.{ℕ, [], ◌∷◌, Result, Ok, Err}
use Rattle.site.specs.Given.{Given, fault_given}
use Rattle.mender.specs.declared.MendError.{MendError}
use Rattle.mender.specs.declared.MendError.TheVariants.{TableShort, NoRoom, ListShort, Record}

-- 0 done, with how many changes there are; 4, "lent table shorter than IN"; 5 with "cell, fragments short";
-- "13 with the number of changes if the list is too short"; the record's 1, 24, 2, 3 and 20
abbrev pub mend_given : Result ℕ MendError → Given
mend_given (Ok n) = record { number = 0; values = n ∷ [] }
mend_given (Err TableShort) = record { number = 4; values = [] }
mend_given (Err (NoRoom cell short)) = record { number = 5; values = cell ∷ short ∷ [] }
mend_given (Err (ListShort n)) = record { number = 13; values = n ∷ [] }
mend_given (Err (Record f)) = fault_given f
