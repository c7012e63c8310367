-- For any arguments one answer and one content of what is lent meet the contract, and no other, in crate `search`: by its equalities alone.
-- Made by tools/surface from the source. Assumes nothing.
use Rattle.std.specs.Prelude.{List, Result, refl, ℕ, ◌≡◌}
use Rattle.contracts.specs.SearchSays.{Search, SearchErrorFromFault}
use Rattle.search.specs.Search.{search_answer, search_table}
use Rattle.search.specs.declared.SearchError.{SearchError}
use Rattle.search.specs.declared.SearchError.TheVariants.{Record}
use Rattle.site.specs.declared.Fault.{Fault}
use Rattle.site.specs.declared.Site.{Site}

-- search::SearchError::from_fault
pub search_error_from_fault-one : (f : Fault)
    → (r : SearchError) × (SearchErrorFromFault f r)
    × ((q : SearchError) → SearchErrorFromFault f q → (q ≡ r))
search_error_from_fault-one f = (
  Record f,
  record { answer = refl },
  λ q says. says.answer,
)

-- search::search
pub search-one : (site : Site) (limit : ℕ) (table : List ℕ)
    → (r : Result ℕ SearchError) × (table' : List ℕ) × (Search site limit table r table')
    × ((q : Result ℕ SearchError) (table'' : List ℕ) → Search site limit table q table'' → (q ≡ r) × (table'' ≡ table'))
search-one site limit table = (
  search_answer site limit table,
  search_table site limit table,
  record { answer = refl; table_after = refl },
  λ q table'' says. (says.answer, says.table_after),
)
