-- `find` and `over_full`, what the desk may rely on: over their contracts and those of `plan`, `renumber` and `heaviest`, in the numbers given back.
-- lent is the table that is lent, and left what it holds afterwards. The sentences are those of the desk's order.
use Rattle.std.specs.Prelude.{◌≡◌, ◌↔◌, ◌⊎◌, List, [], ◌∷◌, ℕ, ◌^◌, ◌≤◌, ◌<◌, Result}
use Rattle.laws.specs.Bits.{bit_at}
use Rattle.theory.specs.Net.{room}
use Rattle.theory.specs.Full.{Mutual, weight}
use Rattle.site.specs.Record.{size}
use Rattle.site.specs.Reach.{net_of}
use Rattle.site.specs.Given.{Given}
use Rattle.site.specs.declared.Site.{Site}
use Rattle.planner.specs.Given.{plan_given}
use Rattle.planner.specs.declared.PlanError.{PlanError}
use Rattle.heaviest.specs.Given.{heaviest_given}
use Rattle.site.specs.declared.Fault.{Fault}
use Rattle.finding.specs.Means.{NoneOver, NoNumbering}
use Rattle.finder.specs.Given.{find_given, over_full_given}
use Rattle.finder.specs.declared.Way.{Way}
use Rattle.finder.specs.declared.FindError.{FindError}
use Rattle.finder.specs.declared.OverFull.{OverFull}
use Rattle.contracts.specs.PlannerSays.{Plan}
use Rattle.contracts.specs.HeaviestSays.{Heaviest}
use Rattle.contracts.specs.FinderSays.{Find, OverFullCall}
use Rattle.demanded.specs.Numbers.{done, done_with}
use Rattle.demanded.specs.Demands.{Accepted, DefinitionOne}
use Rattle.promises.specs.Searched.{tries_for, Searchable, NoTable}
use Rattle.promises.specs.Untouched.{Idle}

-- "verdict (0 plan, 1 none exists, 2 not known), by which way (0 greedy, 1 a set that is over, 2 renumbered, 3 searched), then the tries, or the set"
abbrev pub found_plan : ℕ → ℕ → Given
found_plan way x = done_with (0 ∷ way ∷ x ∷ [])

abbrev pub found_none : ℕ → ℕ → Given
found_none way x = done_with (1 ∷ way ∷ x ∷ [])

abbrev pub not_known : ℕ → Given
not_known tries = done_with (2 ∷ 3 ∷ tries ∷ [])

pub record APlanByAnyWay : Type 0 where
  -- "a plan found is valid"
  pub plan_right : (site : Site) (limit : ℕ) (lent left : List ℕ) (r : Result Way FindError) → Find site limit lent r left → (way x : ℕ)
      → find_given r ≡ found_plan way x → DefinitionOne site left
  -- ""none" means that no table is valid, whichever way said it"; the table is idle then
  pub none_right : (site : Site) (limit : ℕ) (lent left : List ℕ) (r : Result Way FindError) → Find site limit lent r left → (way x : ℕ)
      → find_given r ≡ found_none way x → (NoTable site) × (Idle (size site) lent left)
  -- "Every "none" by a set can be recomputed with a pencil": the set is that of `heaviest`, and `over_full` says of it that it is over, with the same load
  pub set_right : (site : Site) (limit : ℕ) (lent left : List ℕ) (r : Result Way FindError) → Find site limit lent r left → (cells : ℕ)
      → find_given r ≡ found_none 1 cells → (h : Result (ℕ × ℕ) Fault) → Heaviest site h → (o : Result OverFull Fault) → OverFullCall site cells o
      → (heaviest_given h ≡ done_with (weight (net_of site) (bit_at cells) ∷ cells ∷ []))
      × (over_full_given o ≡ done_with (1 ∷ weight (net_of site) (bit_at cells) ∷ []))
  -- the renumbered site never shows that there is none: a set that is over does
  pub never_renumbered : (site : Site) (limit : ℕ) (lent left : List ℕ) (r : Result Way FindError) → Find site limit lent r left → (x : ℕ)
      → find_given r ≡ found_none 2 x → ⊥
  -- "a larger limit never alters a plan or a none"
  pub larger : (site : Site) (limit more : ℕ) (lent left left' : List ℕ) (r r' : Result Way FindError) → limit ≤ more
      → Find site limit lent r left → Find site more lent r' left' → (way x : ℕ) → (find_given r ≡ found_plan way x) ⊎ (find_given r ≡ found_none way x)
      → (r' ≡ r) × (left' ≡ left)
  -- "where the planner plans, `find` leaves the planner's own reservations": its own table
  pub planner_kept : (site : Site) (limit : ℕ) (lent left : List ℕ) (r : Result Way FindError) → Find site limit lent r left
      → (planned : Result Unit PlanError) (its : List ℕ) → Plan site lent planned its → plan_given planned ≡ done
      → (find_given r ≡ found_plan 0 0) × (left ≡ its)
  -- ""not known" only for a site that has no numbering, no set that is over, and whose search met its limit or is too large for it"
  pub not_known_right : (site : Site) (limit : ℕ) (lent left : List ℕ) (r : Result Way FindError) → Find site limit lent r left → (tries : ℕ)
      → find_given r ≡ not_known tries
      → (NoNumbering (net_of site)) × (NoneOver (net_of site)) × (Idle (size site) lent left)
      × (((tries ≡ limit) × (limit < tries_for site)) ⊎ ((tries ≡ 0) × (Searchable site → ⊥)))

pub record ASetThatIsOver : Type 0 where
  -- "`over_full(site, cells)` says whether these cells clash with one another and their loads are above the open positions", with their load
  pub over_exactly : (site : Site) (cells load : ℕ) (r : Result OverFull Fault) → OverFullCall site cells r
      → over_full_given r ≡ done_with (1 ∷ load ∷ [])
      ↔ ((Accepted site) × (cells < 2 ^ site.cells) × Mutual (net_of site) (bit_at cells) × (room (net_of site) < load)
      × (load ≡ weight (net_of site) (bit_at cells)))
  -- of any other cells it gives the load of those that the site has
  pub within_load : (site : Site) (cells load : ℕ) (r : Result OverFull Fault) → OverFullCall site cells r
      → over_full_given r ≡ done_with (0 ∷ load ∷ []) → load ≡ weight (net_of site) (bit_at cells)
  -- "`over_full` yes means no valid table"
  pub over_none : (site : Site) (cells load : ℕ) (r : Result OverFull Fault) → OverFullCall site cells r
      → over_full_given r ≡ done_with (1 ∷ load ∷ []) → NoTable site
