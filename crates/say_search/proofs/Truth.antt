-- What is said of a search is true of the site, for any limit and any table. By the laws of the search's call. Assumes nothing.
use mathlib.Core.Path.{◌≡◌, refl, ◌∙◌, subst}
use mathlib.Core.List.{List}
use mathlib.Core.Logic.{inl, inr, ⊎_elim}
use Prim.Native.Nat.{ℕ, ◌+◌}
use lib.Dec.{eqb}
use borrow.Author.Tests.{eqb-true}
use Rattle.std.specs.Prelude.{Result, Ok, Err}
use Rattle.laws.proofs.Choice.{cases}
use Rattle.theory.specs.Greedy.{reserved}
use Rattle.site.specs.Record.{positions}
use Rattle.site.specs.declared.Site.{Site}
use Rattle.search.specs.Search.{search_answer, search_table}
use Rattle.search.specs.declared.SearchError.{SearchError}
use Rattle.search.specs.declared.SearchError.TheVariants.{Full, Limit, TooMany, TableShort, Record}
use Rattle.search.proofs.Right.{plan_right, full-right, counted, limit-right}
use Rattle.phrases.specs.declared.Phrase.TheVariants.{Row}
use Rattle.say_search.specs.Lines.{planned_after_row, exhausted_row, stopped_row}
use Rattle.say_search.specs.Said.{tries_phrase, search_phrase, on_phrase}
use Rattle.say_search.specs.Means.{SomeValid, NoneValid, Takes, TakesMore, SearchMeans}

-- the row of a number of tries, and the row of one try
by-tries : (s : Site) (row n : ℕ) → SearchMeans s (Row row n 0 0 0) → (n ≡ 1 → SearchMeans s (Row (row + 1) 0 0 0 0)) → SearchMeans s (tries_phrase row n)
by-tries s row n many one = ⊎_elim (λ e. rw e (one (eqb-true n 1 e))) (λ e. rw e many) (cases (eqb n 1))

module _ (s : Site) (limit : ℕ) (t : List ℕ) where
  found : (n : ℕ) → search_answer s limit t ≡ Ok n → SomeValid s × Takes s n
  found n e = ((reserved (positions s) (search_table s limit t), plan_right s t limit n e), (counted s t limit n (inl e)).0)

  none : (n : ℕ) → search_answer s limit t ≡ Err (Full n) → NoneValid s × Takes s n
  none n e = (full-right s t limit n e, (counted s t limit n (inr e)).0)

  more : (n : ℕ) → search_answer s limit t ≡ Err (Limit n) → TakesMore s n
  more n e = let r = limit-right s t limit n e in rw r.0 r.1

  command-true : (a : Result ℕ SearchError) → search_answer s limit t ≡ a → SearchMeans s (search_phrase a)
  command-true (Ok n) e = let h = found n e in by-tries s planned_after_row n h (λ o. (h.0, h.1 ∙ o))
  command-true (Err (Full n)) e = let h = none n e in by-tries s exhausted_row n h (λ o. (h.0, h.1 ∙ o))
  command-true (Err (Limit n)) e = let h = more n e in by-tries s stopped_row n h (λ o. subst (TakesMore s) o h)
  command-true (Err TooMany) e = tt
  command-true (Err TableShort) e = tt
  command-true (Err (Record f)) e = tt

  -- the sentence of `duggfrask search`
  pub said-true : SearchMeans s (search_phrase (search_answer s limit t))
  said-true = command-true (search_answer s limit t) refl

  -- of a search that goes on
  pub on-true : search_answer s limit t ≡ Err (Limit limit) → SearchMeans s (on_phrase limit)
  on-true = more limit
