-- "Numbers given back": for each case of the search's answer, the number and the values that come with it, in their order.
use Rattle.std.specs.Prelude.{ℕ, [], ◌∷◌, Result, Ok, Err}
use Rattle.site.specs.Given.{Given, fault_given}
use Rattle.search.specs.declared.SearchError.{SearchError}
use Rattle.search.specs.declared.SearchError.TheVariants.{Full, Limit, TooMany, TableShort, Record}

-- 0 done, with 0 for a plan, 1 for none exists, 2 for limit met, and the tries; 25; 4 lent table shorter than IN; the record's own
abbrev pub search_given : Result ℕ SearchError → Given
search_given (Ok tries) = record { number = 0; values = 0 ∷ tries ∷ [] }
search_given (Err (Full tries)) = record { number = 0; values = 1 ∷ tries ∷ [] }
search_given (Err (Limit tries)) = record { number = 0; values = 2 ∷ tries ∷ [] }
search_given (Err TooMany) = record { number = 25; values = [] }
search_given (Err TableShort) = record { number = 4; values = [] }
search_given (Err (Record f)) = fault_given f
