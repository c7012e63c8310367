-- For any arguments one answer and one content of what is lent meet the contract, and no other, in crate `finder`: by its equalities alone.
-- Made by tools/surface from the source. Assumes nothing.
use Rattle.std.specs.Prelude.{List, Result, refl, ℕ, ◌≡◌}
use Rattle.contracts.specs.FinderSays.{Find, FindErrorFromFault, FindErrorFromSearchError, OverFullCall}
use Rattle.finder.specs.Find.{find_answer, find_table, over_full_answer, search_refused}
use Rattle.finder.specs.declared.FindError.{FindError}
use Rattle.finder.specs.declared.FindError.TheVariants.{Record}
use Rattle.finder.specs.declared.OverFull.{OverFull}
use Rattle.finder.specs.declared.Way.{Way}
use Rattle.search.specs.declared.SearchError.{SearchError}
use Rattle.site.specs.declared.Fault.{Fault}
use Rattle.site.specs.declared.Site.{Site}

-- finder::FindError::from_fault
pub find_error_from_fault-one : (f : Fault)
    → (r : FindError) × (FindErrorFromFault f r)
    × ((q : FindError) → FindErrorFromFault f q → (q ≡ r))
find_error_from_fault-one f = (
  Record f,
  record { answer = refl },
  λ q says. says.answer,
)

-- finder::FindError::from_search_error
pub find_error_from_search_error-one : (x : SearchError)
    → (r : FindError) × (FindErrorFromSearchError x r)
    × ((q : FindError) → FindErrorFromSearchError x q → (q ≡ r))
find_error_from_search_error-one x = (
  search_refused x,
  record { answer = refl },
  λ q says. says.answer,
)

-- finder::find
pub find-one : (site : Site) (limit : ℕ) (table : List ℕ)
    → (r : Result Way FindError) × (table' : List ℕ) × (Find site limit table r table')
    × ((q : Result Way FindError) (table'' : List ℕ) → Find site limit table q table'' → (q ≡ r) × (table'' ≡ table'))
find-one site limit table = (
  find_answer site limit table,
  find_table site limit table,
  record { answer = refl; table_after = refl },
  λ q table'' says. (says.answer, says.table_after),
)

-- finder::over_full
pub over_full-one : (site : Site) (cells : ℕ)
    → (r : Result OverFull Fault) × (OverFullCall site cells r)
    × ((q : Result OverFull Fault) → OverFullCall site cells q → (q ≡ r))
over_full-one site cells = (
  over_full_answer site cells,
  record { answer = refl },
  λ q says. says.answer,
)
