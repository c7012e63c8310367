-- What each sentence of a search means, row by row. That every sentence that is said is true is `said-true` and `on-true`, proofs/Truth.antt.
use Rattle.std.specs.Prelude.{ℕ, zero, suc, ◌<◌, ◌≡◌, List, [], ◌∷◌}
use Rattle.theory.specs.Net.{Reserved, Valid}
use Rattle.tries.specs.Search.{tries_of, search_of}
use Rattle.site.specs.Reach.{net_of}
use Rattle.site.specs.declared.Site.{Site}
use Rattle.phrases.specs.declared.Phrase.{Phrase}
use Rattle.phrases.specs.declared.Phrase.TheVariants.{Silent, Row}

-- `no plan exists`: no table at all is valid, whoever made it
abbrev pub NoneValid : Site → Type 0
NoneValid s = (res : Reserved) → Valid (net_of s) res → ⊥

-- `a plan exists`
abbrev pub SomeValid : Site → Type 0
SomeValid s = (res : Reserved) × Valid (net_of s) res

-- `n tries`: those of the search as it is defined, which goes on to its end
abbrev pub Takes : Site → ℕ → Type 0
Takes s n = tries_of (search_of (net_of s)) ≡ n

-- `stopped at n tries`, `not decided after n tries`: the search needs more
abbrev pub TakesMore : Site → ℕ → Type 0
TakesMore s n = n < tries_of (search_of (net_of s))

-- ---- row by row, in the order of specs/Lines.antt: what a sentence with the value n says of the site

abbrev pub search_meanings : Site → List (ℕ → Type 0)
search_meanings s =
    -- `planned after @1 tries`
    (λ n. SomeValid s × Takes s n)
    -- `planned after 1 try`
    ∷ (λ n. SomeValid s × Takes s 1)
    -- `full: no plan exists, and @1 tries show it`
    ∷ (λ n. NoneValid s × Takes s n)
    -- `full: no plan exists, and 1 try shows it`
    ∷ (λ n. NoneValid s × Takes s 1)
    -- `not known: stopped at @1 tries`
    ∷ (λ n. TakesMore s n)
    -- `not known: stopped at 1 try`
    ∷ (λ n. TakesMore s 1)
    -- `not decided after @1 tries; searching on`
    ∷ (λ n. TakesMore s n)
    ∷ []

-- there is no other row
abbrev pub row_means : List (ℕ → Type 0) → ℕ → ℕ → Type 0
row_means [] k n = ⊥
row_means (m ∷ ms) zero n = m n
row_means (m ∷ ms) (suc k) n = row_means ms k n

abbrev pub SearchMeans : Site → Phrase → Type 0
SearchMeans s Silent = Unit {0}
SearchMeans s (Row k n b c d) = row_means (search_meanings s) k n
