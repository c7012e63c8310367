-- What the search's call gives where there is no numbering, in the terms of what is found: too large for it is not known with no try, and the table, idle
-- before, stays idle. Assumes nothing.
use mathlib.Core.Path.{◌≡◌, refl, sym, ap, ◌∙◌}
use mathlib.Core.Bool.{Bool, true, false}
use mathlib.Core.List.{List, ◌++◌}
use Prim.Native.Nat.{ℕ}
use lib.ListN.{length, drop, replicate}
use borrow.Author.Tests.{le-ltb}
use Rattle.std.specs.Prelude.{Result, Ok, Err}
use Rattle.laws.specs.Choice.{pick}
use Rattle.tries.specs.Search.{plan_found, none_exists, Limited, ended, limit_met, searched}
use Rattle.site.specs.Record.{positions, size}
use Rattle.site.specs.Reach.{net_of}
use Rattle.site.specs.declared.Site.{Site}
use Rattle.search.specs.Search.{too_large, replied, laid_on, search_answer, search_table}
use Rattle.search.specs.declared.SearchError.{SearchError}
use Rattle.search.specs.declared.SearchError.TheVariants.{TooMany}
use Rattle.finding.specs.Found.{by_search, unsearched, found_sought}
use Rattle.finder.specs.Find.{finding_answer, finding_leaves, search_refused, GaveUp}
use Rattle.finder.specs.declared.Way.{Way}
use Rattle.finder.specs.declared.Way.TheVariants.{Searched}
use Rattle.finder.specs.declared.FindError.{FindError}

-- by the search's answer
abbrev pub sought_answer : Result ℕ SearchError → Result Way FindError
sought_answer (Ok n) = Ok (Searched n)
sought_answer (Err e) = Err (search_refused e)

said : (limit : ℕ) (many : Bool) (x : Limited)
    → sought_answer (pick many (Err TooMany) (replied limit x)) ≡ finding_answer limit (pick many unsearched (by_search x))
said limit true x = refl
said limit false (ended (plan_found qs n)) = refl
said limit false (ended (none_exists n)) = refl
said limit false limit_met = refl

module _ (s : Site) (limit : ℕ) (t : List ℕ) (ready : GaveUp s t) where
  laid : (many : Bool) (x : Limited)
      → pick many t (laid_on (positions s) x (replicate (size s) 0) ++ drop (size s) t) ≡ finding_leaves s (pick many unsearched (by_search x)) t
  laid true x = ready.2
  laid false x = refl

  pub sought-said : sought_answer (search_answer s limit t) ≡ finding_answer limit (found_sought (net_of s) limit)
  unfolding search_answer
  sought-said = rw (ready.0, le-ltb (length t) (size s) ready.1) (said limit (too_large (net_of s)) (searched (net_of s) limit))

  pub sought-plan : (n : ℕ) → search_answer s limit t ≡ Ok n → Ok (Searched n) ≡ finding_answer limit (found_sought (net_of s) limit)
  sought-plan n e = sym (ap sought_answer e) ∙ sought-said

  pub sought-none : (e : SearchError) → search_answer s limit t ≡ Err e → Err (search_refused e) ≡ finding_answer limit (found_sought (net_of s) limit)
  sought-none e h = sym (ap sought_answer h) ∙ sought-said

  pub sought-laid : search_table s limit t ≡ finding_leaves s (found_sought (net_of s) limit) t
  unfolding search_table
  sought-laid = rw (ready.0, le-ltb (length t) (size s) ready.1) (laid (too_large (net_of s)) (searched (net_of s) limit))

pub ruleset by_the_search = (sought-plan, sought-none, sought-laid)
