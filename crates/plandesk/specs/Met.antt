-- Whether a search's answer is that the limit is met.
use Rattle.std.specs.Prelude.{Bool, true, false, ℕ, Result, Ok, Err}
use Rattle.search.specs.declared.SearchError.{SearchError}
use Rattle.search.specs.declared.SearchError.TheVariants.{Full, Limit, TooMany, TableShort, Record}

abbrev pub is_limit : Result ℕ SearchError → Bool
is_limit (Ok n) = false
is_limit (Err (Full n)) = false
is_limit (Err (Limit n)) = true
is_limit (Err TooMany) = false
is_limit (Err TableShort) = false
is_limit (Err (Record f)) = false
