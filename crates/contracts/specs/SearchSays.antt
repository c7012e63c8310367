-- The equalities that the contracts of crate `search` state: r is the answer, and x' what a lent x holds afterwards.
-- Made by tools/surface from the source.
use Rattle.std.specs.Prelude.{List, Result, ℕ, ◌≡◌}
use Rattle.search.specs.Search.{search_answer, search_table}
use Rattle.search.specs.declared.SearchError.{SearchError}
use Rattle.search.specs.declared.SearchError.TheVariants.{Record}
use Rattle.site.specs.declared.Fault.{Fault}
use Rattle.site.specs.declared.Site.{Site}

-- search::SearchError::from_fault
pub record SearchErrorFromFault (f : Fault) (r : SearchError) : Type 0 where
  pub answer : r ≡ Record f

-- search::search
pub record Search (site : Site) (limit : ℕ) (table : List ℕ) (r : Result ℕ SearchError) (table' : List ℕ) : Type 0 where
  pub answer : r ≡ search_answer site limit table
  pub table_after : table' ≡ search_table site limit table
