-- What is found is right.
--     found-means        a plan found is valid, "none" means that no table is valid, and nothing is found only where no way says it
--     found-greedy       where the greedy planner plans, its plan is found
--     found-larger       a larger limit never alters a plan or a none
-- Assumes nothing.
use mathlib.Core.Path.{◌≡◌, refl, sym, ap, ◌∙◌}
use mathlib.Core.Bool.{Bool, true, false, false≢true}
use mathlib.Core.List.{List}
use mathlib.Core.Logic.{⊎_elim}
use Prim.Native.Nat.{ℕ, ◌≤◌}
use native.Mathlib.Omega.{arith}
use Rattle.laws.specs.Choice.{pick}
use Rattle.laws.proofs.Choice.{cases}
use Rattle.theory.specs.Net.{Net, Class, everyone}
use Rattle.theory.specs.Greedy.{Outcome, planned, no_room, greedy, reserved, Plans}
use Rattle.theory.proofs.Exact.{planned-valid, class-exact, class-exists, covers-everyone}
use Rattle.renumbering.specs.Numbering.{Numbering, numbered, stuck, numbering, index_at}
use Rattle.renumbering.specs.Renumbers.{Renumbers, renumbered, Symmetric}
use Rattle.renumbering.proofs.Renumber.{numbers-renumber, numbered-class, stuck-none, valid-back, valid-forth}
use Rattle.tries.specs.Search.{plan_found, none_exists, Limited, ended, limit_met, searched}
use Rattle.tries.proofs.Sound.{plan-valid}
use Rattle.tries.proofs.Whole.{none_right}
use Rattle.tries.proofs.Limit.{ended_is, limit-exact, limit-larger}
use Rattle.heaviest.specs.Sets.{heaviest_set}
use Rattle.search.specs.Search.{too_large}
use Rattle.finding.specs.Found.{
  Found,
  greedily,
  by_search,
  unsearched,
  found_anew,
  found_sought,
  found_numbered,
  heaviest_over,
  found_else,
  found_by,
  found_of,
  known,
}
use Rattle.finding.specs.Means.{NoneOver, NoNumbering, FoundMeans}
use Rattle.finding.proofs.Over.{over_none, heaviest-over, none_over}

-- a run with no room is no plan
pub no-plan : (s : Net) (c m : ℕ) → greedy s ≡ no_room c m → Plans s → ⊥
no-plan s c m e p = let q : no_room c m ≡ planned p.0 = sym e ∙ p.1 in let z : ◌≡◌ {A = ℕ} 0 1 = cc in omega arith

module _ (s : Net) (symmetric : Symmetric s.clash) (few : s.cells ≤ 32) (limit : ℕ) where
  -- ---- in new numbers

  module _ (new old : List ℕ) (found : numbering 32 s.clash s.cells ≡ numbered new old) where
    renumbers : Renumbers s.cells (index_at new) (index_at old)
    renumbers = numbers-renumber s symmetric 32 few new old found

    abbrev anew : Net
    anew = renumbered (index_at old) s

    class : Class anew everyone
    class = numbered-class s symmetric 32 few new old found anew.load everyone

    anew-means : (o : Outcome) → greedy anew ≡ o → FoundMeans s limit (found_anew new o)
    anew-means (planned t) e = valid-back s symmetric (index_at new) (index_at old) renumbers (reserved s.width t) (planned-valid anew t e)
    anew-means (no_room c m) e = λ res v.
        no-plan anew c m e
        ((class-exact anew everyone (covers-everyone anew) class).0
        ((class-exists anew everyone (covers-everyone anew) class).1
        ((λ a k. res (index_at old a) k), valid-forth s symmetric (index_at new) (index_at old) renumbers res v)))

  -- ---- by search

  search-means : NoNumbering s → NoneOver s → (x : Limited) → searched s limit ≡ x → FoundMeans s limit (by_search x)
  search-means none under (ended (plan_found qs n)) e = let is = (ended_is s limit (plan_found qs n) e).0 in (is, plan-valid s qs n is)
  search-means none under (ended (none_exists n)) e = let is = (ended_is s limit (none_exists n) e).0 in (is, none_right s n is)
  search-means none under limit_met e = (none, under, (limit-exact s limit).0 e)

  sought-means : NoNumbering s → NoneOver s → FoundMeans s limit (found_sought s limit)
  sought-means none under =
      ⊎_elim (λ e. rw e (none, under, e)) (λ e. rw e (search-means none under (searched s limit) refl)) (cases (too_large s))

  numbered-means : NoneOver s → (x : Numbering) → numbering 32 s.clash s.cells ≡ x → FoundMeans s limit (found_numbered s limit x)
  numbered-means under (numbered new old) e = anew-means new old e (greedy (anew new old e)) refl
  numbered-means under stuck e = sought-means (stuck-none s symmetric 32 few e) under

  else-means : FoundMeans s limit (found_else s limit)
  unfolding found_else
  else-means =
      ⊎_elim
      (λ e. rw e (refl, heaviest-over s e, over_none s (heaviest_set s) (heaviest-over s e)))
      (λ e. rw e (numbered-means (none_over s e) (numbering 32 s.clash s.cells) refl))
      (cases (heaviest_over s))

  by-means : (o : Outcome) → greedy s ≡ o → FoundMeans s limit (found_by s limit o)
  by-means (planned t) e = (e, planned-valid s t e)
  by-means (no_room c m) e = else-means

  pub found-means : FoundMeans s limit (found_of s limit)
  unfolding found_of
  found-means = by-means (greedy s) refl

pub found-greedy : (s : Net) (limit : ℕ) (t : List ℕ) → greedy s ≡ planned t → found_of s limit ≡ greedily t
unfolding found_of
found-greedy s limit t e = ap (found_by s limit) e

-- ---- a larger limit

module _ (s : Net) (limit more : ℕ) (larger : limit ≤ more) where
  search-larger : (x : Limited) → searched s limit ≡ x → known (by_search x) ≡ true → searched s more ≡ x
  search-larger (ended r) e h = limit-larger s limit more r larger e
  search-larger limit_met e h = absurd (false≢true h)

  sought-larger : (b : Bool) → known (pick b unsearched (by_search (searched s limit))) ≡ true
      → pick b unsearched (by_search (searched s more)) ≡ pick b unsearched (by_search (searched s limit))
  sought-larger true h = refl
  sought-larger false h = ap by_search (search-larger (searched s limit) refl h)

  numbered-larger : (x : Numbering) → known (found_numbered s limit x) ≡ true → found_numbered s more x ≡ found_numbered s limit x
  numbered-larger (numbered new old) h = refl
  numbered-larger stuck h = sought-larger (too_large s) h

  else-larger : (b : Bool) (x : Found) (y : Numbering) → known (pick b x (found_numbered s limit y)) ≡ true
      → pick b x (found_numbered s more y) ≡ pick b x (found_numbered s limit y)
  else-larger true x y h = refl
  else-larger false x y h = numbered-larger y h

  by-larger : (o : Outcome) → known (found_by s limit o) ≡ true → found_by s more o ≡ found_by s limit o
  unfolding found_else
  by-larger (planned t) h = refl
  by-larger (no_room c m) h = else-larger (heaviest_over s) _ (numbering 32 s.clash s.cells) h

  pub found-larger : known (found_of s limit) ≡ true → found_of s more ≡ found_of s limit
  unfolding found_of
  found-larger h = by-larger (greedy s) h
