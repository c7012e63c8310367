-- The equalities that the contracts of crate `finder` state: r is the answer, and x' what a lent x holds afterwards.
-- Made by tools/surface from the source.
use Rattle.std.specs.Prelude.{List, Result, ℕ, ◌≡◌}
use Rattle.finder.specs.Find.{find_answer, find_table, over_full_answer, search_refused}
use Rattle.finder.specs.declared.FindError.{FindError}
use Rattle.finder.specs.declared.FindError.TheVariants.{Record}
use Rattle.finder.specs.declared.OverFull.{OverFull}
use Rattle.finder.specs.declared.Way.{Way}
use Rattle.search.specs.declared.SearchError.{SearchError}
use Rattle.site.specs.declared.Fault.{Fault}
use Rattle.site.specs.declared.Site.{Site}

-- finder::FindError::from_fault
pub record FindErrorFromFault (f : Fault) (r : FindError) : Type 0 where
  pub answer : r ≡ Record f

-- finder::FindError::from_search_error
pub record FindErrorFromSearchError (x : SearchError) (r : FindError) : Type 0 where
  pub answer : r ≡ search_refused x

-- finder::find
pub record Find (site : Site) (limit : ℕ) (table : List ℕ) (r : Result Way FindError) (table' : List ℕ) : Type 0 where
  pub answer : r ≡ find_answer site limit table
  pub table_after : table' ≡ find_table site limit table

-- finder::over_full
pub record OverFullCall (site : Site) (cells : ℕ) (r : Result OverFull Fault) : Type 0 where
  pub answer : r ≡ over_full_answer site cells
