-- "Numbers given back": for each case of the planner's answer, document 01's number and the values that come with it, in its order.
use Rattle.std.specs.Prelude.{[], ◌∷◌, Result, Ok, Err}
use Rattle.site.specs.Given.{Given, fault_given}
use Rattle.planner.specs.declared.PlanError.{PlanError}
use Rattle.planner.specs.declared.PlanError.TheVariants.{TableShort, NoRoom, Record}

-- 0 done; 4 lent table shorter than IN; 5 planner finds no room, with "cell, fragments short"; the record's 1, 24, 2, 3 and 20
abbrev pub plan_given : Result Unit PlanError → Given
plan_given (Ok u) = record { number = 0; values = [] }
plan_given (Err TableShort) = record { number = 4; values = [] }
plan_given (Err (NoRoom cell short)) = record { number = 5; values = cell ∷ short ∷ [] }
plan_given (Err (Record f)) = fault_given f
