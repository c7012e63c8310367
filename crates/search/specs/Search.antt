-- What the search answers and what it leaves in the lent table, for any site, any limit and any table.
use Rattle.std.specs.Prelude.{Bool, ◌||◌, List, [], ◌∷◌, ◌++◌, ℕ, ◌+◌, ◌*◌, ltb, length, set, drop, replicate, Result, Ok, Err}
use Rattle.laws.specs.Choice.{pick}
use Rattle.laws.specs.Sum.{sum}
use Rattle.theory.specs.Net.{Net, room}
use Rattle.tries.specs.Search.{Spot, plan_found, none_exists, Limited, ended, limit_met, searched}
use Rattle.site.specs.Record.{size, fault_of, is_fine, answer_with}
use Rattle.site.specs.Reach.{net_of}
use Rattle.site.specs.declared.Site.{Site}
use Rattle.search.specs.declared.SearchError.{SearchError}
use Rattle.search.specs.declared.SearchError.TheVariants.{Full, Limit, TooMany, TableShort, Record}

-- "up to 64 open positions and 24 fragments in all"
abbrev pub most_fragments : ℕ
most_fragments = 24

abbrev pub most_open : ℕ
most_open = 64

-- "25, too many positions or fragments"
abbrev pub too_large : Net → Bool
too_large s = ltb most_fragments (sum s.load s.cells) || ltb most_open (room s)

-- "the answer is a plan, "none exists" or "limit met", with the tries made": where the limit is met, these are the limit
abbrev pub replied : ℕ → Limited → Result ℕ SearchError
replied limit (ended (plan_found qs n)) = Ok n
replied limit (ended (none_exists n)) = Err (Full n)
replied limit limit_met = Err (Limit limit)

abbrev pub reply_of : Net → ℕ → Result ℕ SearchError
reply_of s limit = pick (too_large s) (Err TooMany) (replied limit (searched s limit))

-- a 1 for each fragment placed, in a table with rows of n bytes
unfoldable pub lay_out : ℕ → List Spot → List ℕ → List ℕ
lay_out n [] t = t
lay_out n (q ∷ qs) t = set (lay_out n qs t) (q.cell * n + q.position) 1

-- a table after the search: a plan is reserved in it
abbrev pub laid_on : ℕ → Limited → List ℕ → List ℕ
laid_on n (ended (plan_found qs m)) t = lay_out n qs t
laid_on n (ended (none_exists m)) t = t
laid_on n limit_met t = t

-- the whole lent table afterwards: "on 25 nothing is written, on the other two failures the table's site part is idle; a plan is 1s and 0s there."
abbrev pub leaves_of : Net → ℕ → List ℕ → List ℕ
leaves_of s limit t =
    pick (too_large s) t (laid_on s.width (searched s limit) (replicate (s.cells * s.width) 0) ++ drop (s.cells * s.width) t)

-- "Refusals: 25, too many positions or fragments, after 4": the record's faults first
unfoldable pub search_answer : Site → ℕ → List ℕ → Result ℕ SearchError
search_answer s limit t = answer_with Record (fault_of s) (pick (ltb (length t) (size s)) (Err TableShort) (reply_of (net_of s) limit))

unfoldable pub search_table : Site → ℕ → List ℕ → List ℕ
search_table s limit t = pick (is_fine (fault_of s)) (pick (ltb (length t) (size s)) t (leaves_of (net_of s) limit t)) t
