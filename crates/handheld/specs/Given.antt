-- "Numbers given back": for each case of the answer, the documents' number and the values that come with it, in their order.
use Rattle.std.specs.Prelude.{[], ◌∷◌, Result, Ok, Err}
use Rattle.site.specs.Given.{Given, fault_given}
use Rattle.handheld.specs.declared.ChangeError.{ChangeError}
use Rattle.handheld.specs.declared.ChangeError.TheVariants.{TableShort, NotPlan, NoRoom, Record}

-- 0 done; 4 lent table shorter than IN; W14: 26 "table is not the plan"; 5 planner finds no room, with "cell, fragments short"; the record's, and the
-- edit's 2
abbrev pub change_given : Result Unit ChangeError → Given
change_given (Ok u) = record { number = 0; values = [] }
change_given (Err TableShort) = record { number = 4; values = [] }
change_given (Err NotPlan) = record { number = 26; values = [] }
change_given (Err (NoRoom cell short)) = record { number = 5; values = cell ∷ short ∷ [] }
change_given (Err (Record f)) = fault_given f
