-- W13 over the public call: the theorems of crate `search`, by the call's contract and in the document's numbers. With a limit that is not met the answer is
-- the defined search's end, so that "none exists" is given where no table is valid. Assumes nothing.
use mathlib.Core.Path.{◌≡◌, refl, sym, ap, ◌∙◌}
use mathlib.Core.Logic.{◌↔◌, ◌⊎◌, inl, inr, ⊎_elim}
use mathlib.Core.List.{List, []}
use Prim.Native.Nat.{ℕ, ◌≤◌, ◌<◌}
use lib.ListN.{length}
use borrow.Author.Tests.{le-ltb}
use Rattle.std.specs.Prelude.{Result, Ok, Err}
use Rattle.laws.specs.Choice.{pick}
use Rattle.laws.specs.Sum.{sum}
use Rattle.theory.specs.Net.{room}
use Rattle.theory.specs.Greedy.{reserved}
use Rattle.tries.specs.Search.{End, plan_found, none_exists, tries_of, search_of, limit_met, ended}
use Rattle.site.specs.Record.{positions, size, is_fine}
use Rattle.site.specs.Reach.{net_of}
use Rattle.site.specs.declared.Site.{Site}
use Rattle.search.specs.Search.{most_fragments, most_open, replied, search_answer, search_table}
use Rattle.search.specs.Given.{search_given}
use Rattle.search.specs.declared.SearchError.{SearchError}
use Rattle.search.specs.declared.SearchError.TheVariants.{Full, Limit, TooMany}
use Rattle.search.proofs.Right as right
use Rattle.search.proofs.Meaning.{too-many-means}
use Rattle.search.proofs.Given.{search-apart}
use Rattle.demanded.specs.Numbers.{refused}
use Rattle.demanded.specs.Demands.{Accepted, LongEnough, DefinitionOne}
use Rattle.promises.specs.Searched.{plan_after, none_after, limit_at, tries_for, Searchable, NoTable, SearchWhereGreedyGivesUp}
use Rattle.demanded.proofs.Numbers.{accepted-number}
use Rattle.demanded.proofs.Demand2.{valid-is-definition-one}

module _ (s : Site) (limit : ℕ) (t : List ℕ) where
  abbrev said : Result ℕ SearchError
  said = search_answer s limit t

  -- the answer with these numbers
  of-plan : (n : ℕ) → search_given said ≡ plan_after n → said ≡ Ok n
  of-plan n = search-apart said (Ok n)

  of_none : (n : ℕ) → search_given said ≡ none_after n → said ≡ Err (Full n)
  of_none n = search-apart said (Err (Full n))

  of-met : (n : ℕ) → search_given said ≡ limit_at n → said ≡ Err (Limit n)
  of-met n = search-apart said (Err (Limit n))

  of-too-many : search_given said ≡ refused 25 [] → said ≡ Err TooMany
  of-too-many = search-apart said (Err TooMany)

  pub a-plan : (n : ℕ) → search_given said ≡ plan_after n → (DefinitionOne s (search_table s limit t)) × (tries_for s ≡ n)
  a-plan n e =
      let h = of-plan n e in
      ((valid-is-definition-one s (search_table s limit t)).0 (right.plan_right s t limit n h), (right.counted s t limit n (inl h)).0)

  pub a-none : (n : ℕ) → search_given said ≡ none_after n → (NoTable s) × (tries_for s ≡ n)
  a-none n e =
      let h = of_none n e in (
        λ any one. right.full-right s t limit n h (reserved (positions s) any) ((valid-is-definition-one s any).1 one),
        (right.counted s t limit n (inr h)).0,
      )

  module _ (ok : Accepted s) (long : LongEnough s t) where
    pub a-too-many : search_given said ≡ refused 25 [] ↔ ((24 < sum (net_of s).load s.cells) ⊎ (64 < room (net_of s)))
    a-too-many = (
      λ e. ((too-many-means s limit t).0 (of-too-many e)).2,
      λ h. ap search_given ((too-many-means s limit t).1 (ap is_fine ((accepted-number s).0 ok), long, h)),
    )

    module _ (few : Searchable s) where
      made : right.Sought s t
      made = record {
        fine = ap is_fine ((accepted-number s).0 ok);
        long = le-ltb (length t) (size s) long;
        few = rw (le-ltb most_fragments (sum (net_of s).load s.cells) few.0, le-ltb most_open (room (net_of s)) few.1);
      }

      pub a-limit : search_given said ≡ limit_at limit ↔ (limit < tries_for s)
      a-limit = (λ e. (right.limit-right s t limit limit (of-met limit e)).1, λ h. ap search_given ((right.limit_met_holds s t limit made).1 h))

      module _ (enough : tries_for s ≤ limit) where
        -- the answer tells the defined search's end
        tells : said ≡ replied limit (ended (search_of (net_of s)))
        tells =
            right.sought-says s t limit made
            ∙ ap (λ b. replied limit (pick b limit_met (ended (search_of (net_of s))))) (le-ltb limit (tries_for s) enough)

        by_end : (x : End) → search_of (net_of s) ≡ x → NoTable s → search_given said ≡ none_after (tries_for s)
        by_end (plan_found qs n) e none =
            absurd
            (none (search_table s limit t)
            ((valid-is-definition-one s (search_table s limit t)).0 (right.plan_right s t limit n (tells ∙ ap (λ x. replied limit (ended x)) e))))
        by_end (none_exists n) e none =
            ap search_given (tells ∙ ap (λ x. replied limit (ended x)) e) ∙ ap none_after (sym (ap tries_of e))

        pub none-just : search_given said ≡ none_after (tries_for s) ↔ NoTable s
        none-just = (λ e. (a-none (tries_for s) e).0, by_end (search_of (net_of s)) refl)

  pub a-larger : (more : ℕ) → limit ≤ more → (n : ℕ) → (search_given said ≡ plan_after n) ⊎ (search_given said ≡ none_after n)
      → (search_answer s more t ≡ said) × (search_table s more t ≡ search_table s limit t)
  a-larger more l n = ⊎_elim (λ e. right.larger s t limit n more l (inl (of-plan n e))) (λ e. right.larger s t limit n more l (inr (of_none n e)))

pub search-where-greedy-gives-up : SearchWhereGreedyGivesUp
search-where-greedy-gives-up = record {
  plan_right = λ site limit lent left r says n e. rw says.table_after (a-plan site limit lent n (rw says.answer at e));
  none_right = λ site limit lent left r says n e. a-none site limit lent n (rw says.answer at e);
  none_exactly = λ site limit lent left r says ok long few enough. rw says.answer (none-just site limit lent ok long few enough);
  limit_met_holds = λ site limit lent left r says ok long few. rw says.answer (a-limit site limit lent ok long few);
  larger = λ site limit more lent left left' r r' l says says' n e.
      rw (says'.answer, says'.table_after, says.answer, says.table_after) (a-larger site limit lent more l n (rw says.answer at e));
  too_many-law = λ site limit lent left r says ok long. rw says.answer (a-too-many site limit lent ok long);
}
