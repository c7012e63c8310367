-- What each last word means, over valid tables, whoever made them, over all sets of cells and all renumberings. That the word that is said of a site is true of
-- it is `last-true`, proofs/Truth.antt; that it is said exactly where it is so, `word-exactly`.
use Rattle.std.specs.Prelude.{ℕ, ◌^◌, ◌≤◌, ◌<◌, ◌≡◌, List, ◌⊎◌, length, Result, Ok, Err}
use Rattle.laws.specs.Bits.{bit_at}
use Rattle.laws.specs.Sum.{sum}
use Rattle.theory.specs.Net.{room}
use Rattle.theory.specs.Full.{Mutual, weight}
use Rattle.site.specs.Record.{size}
use Rattle.site.specs.Reach.{net_of}
use Rattle.site.specs.declared.Site.{Site}
use Rattle.planner.specs.Plan.{plan_answer}
use Rattle.finding.specs.Means.{NoneOver, NoNumbering}
use Rattle.finder.specs.declared.Way.{Way}
use Rattle.finder.specs.declared.Way.TheVariants.{Greedy, Renumbered, Searched}
use Rattle.finder.specs.declared.FindError.{FindError}
use Rattle.finder.specs.declared.FindError.TheVariants.{Full, FullInClass, FullSearched, NotKnown, TableShort, Record}
use Rattle.say_search.specs.Means.{SomeValid, NoneValid, Takes, TakesMore}

-- the planner plans it, in any table that is long enough
abbrev pub PlannerPlans : Site → Type 0
PlannerPlans s = (t : List ℕ) → size s ≤ length t → plan_answer s t ≡ Ok tt

-- cells of the site that clash with one another, and whose loads come to more than the open positions
abbrev pub OverCells : Site → ℕ → Type 0
OverCells s x = (x < 2 ^ s.cells) × Mutual (net_of s) (bit_at x) × (room (net_of s) < weight (net_of s) (bit_at x))

-- `over 64 open positions or 24 fragments`
abbrev pub OverSize : Site → Type 0
OverSize s = (24 < sum (net_of s).load s.cells) ⊎ (64 < room (net_of s))

-- "only for a site that has no numbering, no set that is over, and whose search met its limit or is too large for it"
abbrev pub Undecided : Site → (limit tries : ℕ) → Type 0
Undecided s limit n = NoNumbering (net_of s) × NoneOver (net_of s) × (((n ≡ limit) × TakesMore s limit) ⊎ ((n ≡ 0) × OverSize s))

-- `planned`: the planner plans it. `planned with the cells renumbered`: a renumbering puts it in the class, and the planner does not plan it. `planned by
-- search (n tries)`: neither of the two. `full (these cells)`. `full (renumbered)` is never said. `full (searched, n tries)`. `not known (n tries)`. Of a
-- refusal nothing is said
abbrev pub LastMeans : Site → (limit : ℕ) → Result Way FindError → Type 0
LastMeans s limit (Ok Greedy) = SomeValid s × PlannerPlans s
LastMeans s limit (Ok Renumbered) = SomeValid s × (NoNumbering (net_of s) → ⊥) × (PlannerPlans s → ⊥)
LastMeans s limit (Ok (Searched n)) = SomeValid s × Takes s n × (PlannerPlans s → ⊥) × NoNumbering (net_of s)
LastMeans s limit (Err (Full x)) = NoneValid s × OverCells s x
LastMeans s limit (Err FullInClass) = ⊥
LastMeans s limit (Err (FullSearched n)) = NoneValid s × Takes s n × NoneOver (net_of s) × NoNumbering (net_of s)
LastMeans s limit (Err (NotKnown n)) = Undecided s limit n
LastMeans s limit (Err TableShort) = Unit {0}
LastMeans s limit (Err (Record f)) = Unit {0}
