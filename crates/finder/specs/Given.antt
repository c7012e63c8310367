-- "Numbers given back": for each case of the two answers its number and the values that come with it, in their order.
use Rattle.std.specs.Prelude.{[], ◌∷◌, Result, Ok, Err}
use Rattle.site.specs.Given.{Given, fault_given}
use Rattle.site.specs.declared.Fault.{Fault}
use Rattle.finder.specs.declared.Way.{Way}
use Rattle.finder.specs.declared.Way.TheVariants.{Greedy, Renumbered, Searched}
use Rattle.finder.specs.declared.FindError.{FindError}
use Rattle.finder.specs.declared.FindError.TheVariants.{Full, FullInClass, FullSearched, NotKnown, TableShort, Record}
use Rattle.finder.specs.declared.OverFull.{OverFull}
use Rattle.finder.specs.declared.OverFull.TheVariants.{Over, Within}

-- "done: verdict (0 plan, 1 none exists, 2 not known), by which way (0 greedy, 1 a set that is over, 2 renumbered, 3 searched), then the tries, or the set as
-- a word"; 0 where there is neither. Not known is by the search. 4 lent table shorter than IN; the record's own
abbrev pub find_given : Result Way FindError → Given
find_given (Ok Greedy) = record { number = 0; values = 0 ∷ 0 ∷ 0 ∷ [] }
find_given (Ok Renumbered) = record { number = 0; values = 0 ∷ 2 ∷ 0 ∷ [] }
find_given (Ok (Searched tries)) = record { number = 0; values = 0 ∷ 3 ∷ tries ∷ [] }
find_given (Err (Full cells)) = record { number = 0; values = 1 ∷ 1 ∷ cells ∷ [] }
find_given (Err FullInClass) = record { number = 0; values = 1 ∷ 2 ∷ 0 ∷ [] }
find_given (Err (FullSearched tries)) = record { number = 0; values = 1 ∷ 3 ∷ tries ∷ [] }
find_given (Err (NotKnown tries)) = record { number = 0; values = 2 ∷ 3 ∷ tries ∷ [] }
find_given (Err TableShort) = record { number = 4; values = [] }
find_given (Err (Record f)) = fault_given f

-- "done: 1 or 0, their load": 1 where the set is over and 0 where it is not; the record's own
abbrev pub over_full_given : Result OverFull Fault → Given
over_full_given (Ok (Over load)) = record { number = 0; values = 1 ∷ load ∷ [] }
over_full_given (Ok (Within load)) = record { number = 0; values = 0 ∷ load ∷ [] }
over_full_given (Err f) = fault_given f
