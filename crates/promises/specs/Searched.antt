-- W13, what the desk may rely on where greedy gives up: over the contract of `search`, and in the document's numbers.
use Rattle.std.specs.Prelude.{◌≡◌, ◌↔◌, ◌⊎◌, List, [], ◌∷◌, ℕ, ◌≤◌, ◌<◌, Result}
use Rattle.laws.specs.Sum.{sum}
use Rattle.theory.specs.Net.{room}
use Rattle.tries.specs.Search.{tries_of, search_of}
use Rattle.site.specs.Reach.{net_of}
use Rattle.site.specs.Given.{Given}
use Rattle.site.specs.declared.Site.{Site}
use Rattle.search.specs.Given.{search_given}
use Rattle.search.specs.declared.SearchError.{SearchError}
use Rattle.contracts.specs.SearchSays.{Search}
use Rattle.demanded.specs.Numbers.{done_with, refused}
use Rattle.demanded.specs.Demands.{Accepted, LongEnough, DefinitionOne}

-- "the answer is a plan, "none exists" or "limit met", with the tries made"
abbrev pub plan_after : ℕ → Given
plan_after n = done_with (0 ∷ n ∷ [])

abbrev pub none_after : ℕ → Given
none_after n = done_with (1 ∷ n ∷ [])

abbrev pub limit_at : ℕ → Given
limit_at n = done_with (2 ∷ n ∷ [])

-- the tries of "the search as defined"
abbrev pub tries_for : Site → ℕ
tries_for site = tries_of (search_of (net_of site))

-- "For up to 64 open positions and 24 fragments in all"
abbrev pub Searchable : Site → Type 0
Searchable site = (sum (net_of site).load site.cells ≤ 24) × (room (net_of site) ≤ 64)

abbrev pub NoTable : Site → Type 0
NoTable site = (any : List ℕ) → DefinitionOne site any → ⊥

pub record SearchWhereGreedyGivesUp : Type 0 where
  -- "Plan and "none exists" are each right", "The count equals that of the search as defined."
  pub plan_right : (site : Site) (limit : ℕ) (lent left : List ℕ) (r : Result ℕ SearchError) → Search site limit lent r left → (n : ℕ)
      → search_given r ≡ plan_after n → (DefinitionOne site left) × (tries_for site ≡ n)
  pub none_right : (site : Site) (limit : ℕ) (lent left : List ℕ) (r : Result ℕ SearchError) → Search site limit lent r left → (n : ℕ)
      → search_given r ≡ none_after n → (NoTable site) × (tries_for site ≡ n)
  -- "It answers for any site": with a limit that is not met, "none exists" exactly when no table is valid
  pub none_exactly : (site : Site) (limit : ℕ) (lent left : List ℕ) (r : Result ℕ SearchError) → Search site limit lent r left
      → Accepted site → LongEnough site lent → Searchable site → tries_for site ≤ limit → search_given r ≡ none_after (tries_for site) ↔ NoTable site
  -- ""Limit met" is given exactly when the search needs more tries than the limit."
  pub limit_met_holds : (site : Site) (limit : ℕ) (lent left : List ℕ) (r : Result ℕ SearchError) → Search site limit lent r left
      → Accepted site → LongEnough site lent → Searchable site → search_given r ≡ limit_at limit ↔ (limit < tries_for site)
  -- "a larger limit never alters either of them or its count"
  pub larger : (site : Site) (limit more : ℕ) (lent left left' : List ℕ) (r r' : Result ℕ SearchError) → limit ≤ more
      → Search site limit lent r left → Search site more lent r' left' → (n : ℕ) → (search_given r ≡ plan_after n) ⊎ (search_given r ≡ none_after n)
      → (r' ≡ r) × (left' ≡ left)
  -- "25, too many positions or fragments, after 4"
  pub too_many-law : (site : Site) (limit : ℕ) (lent left : List ℕ) (r : Result ℕ SearchError) → Search site limit lent r left
      → Accepted site → LongEnough site lent
      → search_given r ≡ refused 25 [] ↔ ((24 < sum (net_of site).load site.cells) ⊎ (64 < room (net_of site)))
