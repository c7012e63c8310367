-- `find` and `over_full` over their contracts: the theorems of crate `finder`, in the numbers given back. The first value says which verdict an answer is, so
-- that a plan or a none is told whichever way said it. Assumes nothing.
use mathlib.Core.Path.{◌≡◌, refl, sym, ap, ◌∙◌, subst}
use mathlib.Core.Bool.{true, false, true≢false}
use mathlib.Core.Logic.{◌↔◌, ◌⊎◌, inl, inr, ⊎_elim}
use mathlib.Core.List.{List, [], ◌∷◌}
use Prim.Native.Nat.{ℕ, ◌^◌, ◌≤◌, ◌<◌}
use native.Mathlib.Omega.{arith}
use lib.Dec.{eqb}
use lib.ListN.{get_or}
use borrow.Author.Tests.{le-ltb}
use Rattle.std.specs.Prelude.{Result, Ok, Err, is_ok}
use Rattle.laws.specs.Bits.{bit_at}
use Rattle.laws.specs.Choice.{pick}
use Rattle.laws.specs.Sum.{sum}
use Rattle.theory.specs.Net.{room}
use Rattle.theory.specs.Full.{Mutual, weight}
use Rattle.theory.specs.Greedy.{reserved}
use Rattle.site.specs.Record.{positions, size}
use Rattle.site.specs.Reach.{net_of}
use Rattle.site.specs.Given.{Given, fault_given}
use Rattle.site.specs.declared.Site.{Site}
use Rattle.site.specs.declared.Fault.{Fault}
use Rattle.site.specs.declared.Fault.TheVariants.{Size, Rule, Load, Reach, Blocked}
use Rattle.planner.specs.Plan.{plan_answer, plan_table}
use Rattle.planner.specs.Given.{plan_given}
use Rattle.heaviest.specs.Sets.{heaviest_of}
use Rattle.heaviest.specs.Given.{heaviest_given}
use Rattle.search.specs.Search.{most_fragments, most_open, too_large}
use Rattle.finding.specs.Means.{NoneOver, NoNumbering}
use Rattle.finder.specs.Find.{find_answer, find_table, over_full_answer}
use Rattle.finder.specs.Given.{find_given, over_full_given}
use Rattle.finder.specs.declared.Way.{Way}
use Rattle.finder.specs.declared.FindError.{FindError}
use Rattle.finder.specs.declared.Way.TheVariants.{Greedy, Renumbered, Searched}
use Rattle.finder.specs.declared.FindError.TheVariants.{Full, FullInClass, FullSearched, NotKnown, TableShort, Record}
use Rattle.finder.specs.declared.OverFull.TheVariants as over
use Rattle.finder.proofs.Given.{find-apart, over-apart}
use Rattle.finder.proofs.Right.{is_none, is_verdict, none-verdict, none-no-plan}
use Rattle.finder.proofs.Right as right
use Rattle.demanded.specs.Numbers.{done, done_with}
use Rattle.demanded.specs.Demands.{Accepted, DefinitionOne}
use Rattle.promises.specs.Searched.{tries_for, Searchable, NoTable}
use Rattle.promises.specs.Untouched.{Idle}
use Rattle.promises.specs.Finder.{found_plan, found_none, not_known, APlanByAnyWay, ASetThatIsOver}
use Rattle.demanded.proofs.Numbers.{accepted-number, plan-number}
use Rattle.demanded.proofs.Demand2.{valid-is-definition-one}

-- ---- the verdict of an answer, by its first value

abbrev verdict_in : Given → ℕ
verdict_in g = pick (eqb g.number 0) (get_or g.values 0 9) 9

abbrev way_in : Given → ℕ
way_in g = get_or g.values 1 9

fault-none : (f : Fault) → verdict_in (fault_given f) ≡ 9
fault-none Size = refl
fault-none Rule = refl
fault-none (Load k) = refl
fault-none (Reach k) = refl
fault-none (Blocked k) = refl

plan-said : (a : Result Way FindError) (way x : ℕ) → find_given a ≡ found_plan way x → is_ok a ≡ true
plan-said (Ok w) way x e = refl
plan-said (Err (Full c)) way x e = let z : ◌≡◌ {A = ℕ} 1 0 = ap verdict_in e in absurd (omega arith)
plan-said (Err FullInClass) way x e = let z : ◌≡◌ {A = ℕ} 1 0 = ap verdict_in e in absurd (omega arith)
plan-said (Err (FullSearched n)) way x e = let z : ◌≡◌ {A = ℕ} 1 0 = ap verdict_in e in absurd (omega arith)
plan-said (Err (NotKnown n)) way x e = let z : ◌≡◌ {A = ℕ} 2 0 = ap verdict_in e in absurd (omega arith)
plan-said (Err TableShort) way x e = let z : ◌≡◌ {A = ℕ} 9 0 = ap verdict_in e in absurd (omega arith)
plan-said (Err (Record f)) way x e = let z : verdict_in (fault_given f) ≡ 0 = ap verdict_in e in absurd (omega (arith, fault-none f))

none_said : (a : Result Way FindError) (way x : ℕ) → find_given a ≡ found_none way x → is_none a ≡ true
none_said (Ok Greedy) way x e = let z : ◌≡◌ {A = ℕ} 0 1 = ap verdict_in e in absurd (omega arith)
none_said (Ok Renumbered) way x e = let z : ◌≡◌ {A = ℕ} 0 1 = ap verdict_in e in absurd (omega arith)
none_said (Ok (Searched n)) way x e = let z : ◌≡◌ {A = ℕ} 0 1 = ap verdict_in e in absurd (omega arith)
none_said (Err (Full c)) way x e = refl
none_said (Err FullInClass) way x e = refl
none_said (Err (FullSearched n)) way x e = refl
none_said (Err (NotKnown n)) way x e = let z : ◌≡◌ {A = ℕ} 2 1 = ap verdict_in e in absurd (omega arith)
none_said (Err TableShort) way x e = let z : ◌≡◌ {A = ℕ} 9 1 = ap verdict_in e in absurd (omega arith)
none_said (Err (Record f)) way x e = let z : verdict_in (fault_given f) ≡ 1 = ap verdict_in e in absurd (omega (arith, fault-none f))

class-said : (a : Result Way FindError) (x : ℕ) → is_none a ≡ true → find_given a ≡ found_none 2 x → a ≡ Err FullInClass
class-said (Ok w) x h e = absurd (true≢false (sym h))
class-said (Err (Full c)) x h e = let z : ◌≡◌ {A = ℕ} 1 2 = ap way_in e in absurd (omega arith)
class-said (Err FullInClass) x h e = refl
class-said (Err (FullSearched n)) x h e = let z : ◌≡◌ {A = ℕ} 3 2 = ap way_in e in absurd (omega arith)
class-said (Err (NotKnown n)) x h e = absurd (true≢false (sym h))
class-said (Err TableShort) x h e = absurd (true≢false (sym h))
class-said (Err (Record f)) x h e = absurd (true≢false (sym h))

-- ---- `find`

-- a site that is too large for the search has more than it takes
too_large-law : (s : Site) → too_large (net_of s) ≡ true → Searchable s → ⊥
too_large-law s e few =
    let no : too_large (net_of s) ≡ false = rw (le-ltb most_fragments (sum (net_of s).load s.cells) few.0, le-ltb most_open (room (net_of s)) few.1) in
    true≢false (sym e ∙ no)

module _ (s : Site) (limit : ℕ) (t : List ℕ) where
  abbrev said : Result Way FindError
  said = find_answer s limit t

  a-plan : (way x : ℕ) → find_given said ≡ found_plan way x → DefinitionOne s (find_table s limit t)
  a-plan way x e = (valid-is-definition-one s (find_table s limit t)).0 (right.plan_right s limit t (plan-said said way x e))

  a-none : (way x : ℕ) → find_given said ≡ found_none way x → (NoTable s) × (Idle (size s) t (find_table s limit t))
  a-none way x e =
      let h = none_said said way x e in (
        λ any one. right.none_right s limit t h (reserved (positions s) any) ((valid-is-definition-one s any).1 one),
        right.idle-part s limit t (none-verdict said h) (none-no-plan said h),
      )

  a-set : (cells : ℕ) → find_given said ≡ found_none 1 cells
      → (heaviest_given (heaviest_of s) ≡ done_with (weight (net_of s) (bit_at cells) ∷ cells ∷ []))
      × (over_full_given (over_full_answer s cells) ≡ done_with (1 ∷ weight (net_of s) (bit_at cells) ∷ []))
  a-set cells e =
      let f = right.full-right s limit t cells (find-apart said (Err (Full cells)) e) in
      (ap heaviest_given f.0, ap over_full_given f.1)

  no-class : (x : ℕ) → find_given said ≡ found_none 2 x → ⊥
  no-class x e = right.never-in-class s limit t (class-said said x (none_said said 2 x e) e)

  a-larger : (more : ℕ) → limit ≤ more → (way x : ℕ) → (find_given said ≡ found_plan way x) ⊎ (find_given said ≡ found_none way x)
      → (find_answer s more t ≡ said) × (find_table s more t ≡ find_table s limit t)
  a-larger more l way x h = right.larger s limit more t l (⊎_elim (λ e. inl (plan-said said way x e)) (λ e. inr (none_said said way x e)) h)

  the-planners : plan_given (plan_answer s t) ≡ done → (find_given said ≡ found_plan 0 0) × (find_table s limit t ≡ plan_table s t)
  the-planners e = let k = right.greedy-kept s limit t ((plan-number s t).0 e) in (ap find_given k.0, k.1)

  unknown : (tries : ℕ) → find_given said ≡ not_known tries
      → (NoNumbering (net_of s)) × (NoneOver (net_of s)) × (Idle (size s) t (find_table s limit t))
      × (((tries ≡ limit) × (limit < tries_for s)) ⊎ ((tries ≡ 0) × (Searchable s → ⊥)))
  unknown tries e =
      let is = find-apart said (Err (NotKnown tries)) e in
      let h = right.not_known-law s limit t tries is in (
        h.0,
        h.1,
        right.idle-part s limit t (ap is_verdict is) (ap is_ok is),
        ⊎_elim (λ m. inl m) (λ m. inr (m.0, too_large-law s m.1)) h.2,
      )

pub a-plan-by-any-way : APlanByAnyWay
a-plan-by-any-way = record {
  plan_right = λ site limit lent left r says way x e. rw says.table_after (a-plan site limit lent way x (rw says.answer at e));
  none_right = λ site limit lent left r says way x e. rw says.table_after (a-none site limit lent way x (rw says.answer at e));
  set_right = λ site limit lent left r says cells e h heavy o full.
      rw (heavy.answer, full.answer) (a-set site limit lent cells (rw says.answer at e));
  never_renumbered = λ site limit lent left r says x e. no-class site limit lent x (rw says.answer at e);
  larger = λ site limit more lent left left' r r' l says says' way x e.
      rw (says'.answer, says'.table_after, says.answer, says.table_after) (a-larger site limit lent more l way x (rw says.answer at e));
  planner_kept = λ site limit lent left r says planned its plan e.
      rw (says.answer, says.table_after, plan.table_after) (the-planners site limit lent (rw plan.answer at e));
  not_known_right = λ site limit lent left r says tries e. rw says.table_after (unknown site limit lent tries (rw says.answer at e));
}

-- ---- `over_full`

module _ (s : Site) (cells load : ℕ) where
  is-over : over_full_given (over_full_answer s cells) ≡ done_with (1 ∷ load ∷ []) → over_full_answer s cells ≡ Ok (over.Over load)
  is-over = over-apart (over_full_answer s cells) (Ok (over.Over load))

  exactly : over_full_given (over_full_answer s cells) ≡ done_with (1 ∷ load ∷ [])
      ↔ ((Accepted s) × (cells < 2 ^ s.cells) × Mutual (net_of s) (bit_at cells) × (room (net_of s) < load) × (load ≡ weight (net_of s) (bit_at cells)))
  exactly = (
    λ e.
        let h = (right.over_exactly s cells load).0 (is-over e) in
        ((accepted-number s).1 h.0, h.1, h.2, subst (λ k. room (net_of s) < k) (sym h.4) h.3, h.4),
    λ h.
        ap over_full_given
        ((right.over_exactly s cells load).1 ((accepted-number s).0 h.0, h.1, h.2, subst (λ k. room (net_of s) < k) h.4 h.3, h.4)),
  )

  within : over_full_given (over_full_answer s cells) ≡ done_with (0 ∷ load ∷ []) → load ≡ weight (net_of s) (bit_at cells)
  within e = (right.within_load s cells load (over-apart (over_full_answer s cells) (Ok (over.Within load)) e)).1

  none : over_full_given (over_full_answer s cells) ≡ done_with (1 ∷ load ∷ []) → NoTable s
  none e any one = right.over-right s cells load (is-over e) (reserved (positions s) any) ((valid-is-definition-one s any).1 one)

pub a-set-that-is-over : ASetThatIsOver
a-set-that-is-over = record {
  over_exactly = λ site cells load r says. rw says.answer (exactly site cells load);
  within_load = λ site cells load r says e. within site cells load (rw says.answer at e);
  over_none = λ site cells load r says e. none site cells load (rw says.answer at e);
}
