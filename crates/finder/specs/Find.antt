-- What `find` answers and what it leaves in the lent table, for any site, any limit and any table; and what `over_full` answers for any set of cells.
use Rattle.std.specs.Prelude.{◌≡◌, Bool, List, ◌++◌, ℕ, ◌*◌, ◌≤◌, ltb, length, drop, replicate, Result, Ok, Err}
use Rattle.std.specs.Result.{result_and}
use Rattle.laws.specs.Bits.{bit_at}
use Rattle.laws.specs.Choice.{pick}
use Rattle.theory.specs.Full.{weight}
use Rattle.theory.specs.Greedy.{reserved}
use Rattle.renumbering.specs.Numbering.{index_at}
use Rattle.tries.specs.Search.{plan_found, none_exists, ended, limit_met}
use Rattle.site.specs.Record.{positions, size, fault_of, is_fine, answer_with}
use Rattle.site.specs.Reach.{net_of}
use Rattle.site.specs.declared.Site.{Site}
use Rattle.site.specs.declared.Fault.{Fault}
use Rattle.wordforms.specs.Words.{bytes_of}
use Rattle.search.specs.Search.{laid_on}
use Rattle.search.specs.declared.SearchError.{SearchError}
use Rattle.search.specs.declared.SearchError.TheVariants as search
use Rattle.finding.specs.Found.{over_full, Found, greedily, over_by, renumbered_plan, full_renumbered, by_search, unsearched, found_of}
use Rattle.finder.specs.declared.Way.{Way}
use Rattle.finder.specs.declared.Way.TheVariants.{Greedy, Renumbered, Searched}
use Rattle.finder.specs.declared.FindError.{FindError}
use Rattle.finder.specs.declared.FindError.TheVariants.{Full, FullInClass, FullSearched, NotKnown, TableShort, Record}
use Rattle.finder.specs.declared.OverFull.{OverFull}
use Rattle.finder.specs.declared.OverFull.TheVariants.{Over, Within}

-- which way found a plan, or shows that there is none, with its tries or its cells; where the limit is met, the tries made are the limit
abbrev pub finding_answer : ℕ → Found → Result Way FindError
finding_answer limit (greedily t) = Ok Greedy
finding_answer limit (over_by x) = Err (Full x)
finding_answer limit (renumbered_plan new t) = Ok Renumbered
finding_answer limit full_renumbered = Err FullInClass
finding_answer limit (by_search (ended (plan_found qs n))) = Ok (Searched n)
finding_answer limit (by_search (ended (none_exists n))) = Err (FullSearched n)
finding_answer limit (by_search limit_met) = Err (NotKnown limit)
finding_answer limit unsearched = Err (NotKnown 0)

-- the search's refusal, given by this call
abbrev pub search_refused : SearchError → FindError
search_refused (search.Full n) = FullSearched n
search_refused (search.Limit n) = NotKnown n
search_refused search.TooMany = NotKnown 0
search_refused search.TableShort = TableShort
search_refused (search.Record f) = Record f

-- The table of so many cells and positions: a greedy plan is the planner's own table; the plan of the renumbered site is 1s and 0s, each cell's row that of
-- its new number; a plan by search is as the search lays it. What is no plan leaves the table idle.
abbrev pub finding_table : ℕ → ℕ → Found → List ℕ
finding_table cells n (greedily t) = t
finding_table cells n (over_by x) = replicate (cells * n) 0
finding_table cells n (renumbered_plan new t) = bytes_of cells n (λ i k. reserved n t (index_at new i) k)
finding_table cells n full_renumbered = replicate (cells * n) 0
finding_table cells n (by_search x) = laid_on n x (replicate (cells * n) 0)
finding_table cells n unsearched = replicate (cells * n) 0

-- the whole lent table afterwards: bytes past IN are never written
abbrev pub finding_leaves : Site → Found → List ℕ → List ℕ
finding_leaves s f t = finding_table s.cells (positions s) f ++ drop (size s) t

-- the record's faults first, then 4
unfoldable pub find_answer : Site → ℕ → List ℕ → Result Way FindError
find_answer s limit t =
    answer_with Record (fault_of s) (pick (ltb (length t) (size s)) (Err TableShort) (finding_answer limit (found_of (net_of s) limit)))

-- no refusal writes
unfoldable pub find_table : Site → ℕ → List ℕ → List ℕ
find_table s limit t = pick (is_fine (fault_of s)) (pick (ltb (length t) (size s)) t (finding_leaves s (found_of (net_of s) limit) t)) t

-- Where the greedy planner has found no room: the record is accepted, the table is long enough, and its site part is idle.
abbrev pub GaveUp : Site → List ℕ → Type 0
GaveUp s t = (fault_of s ≡ Ok tt) × (size s ≤ length t) × (t ≡ replicate (size s) 0 ++ drop (size s) t)

-- whether a set is over, with its load
abbrev pub over_said : Bool → ℕ → OverFull
over_said is load = pick is (Over load) (Within load)

-- "says whether these cells clash with one another and their loads are above the open positions". A set with a cell beyond I is not over, and its load is that
-- of the cells that the site has
unfoldable pub over_full_answer : Site → ℕ → Result OverFull Fault
over_full_answer s x = result_and (fault_of s) (Ok (over_said (over_full (net_of s) x) (weight (net_of s) (bit_at x))))
