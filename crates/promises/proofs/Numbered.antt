-- W10 over the public calls: the theorems of crate `numbering`, by the calls' contracts and in the document's numbers. Where no room is found for the
-- renumbered site no table is valid for the site, so that any valid one is planned. Assumes nothing.
use mathlib.Core.Path.{◌≡◌, refl, ap}
use mathlib.Core.Logic.{◌↔◌}
use mathlib.Core.List.{List, []}
use Prim.Native.Nat.{ℕ, ◌≤◌}
use native.Mathlib.Omega.{arith}
use lib.ListN.{length, drop, replicate, length-replicate}
use Rattle.std.specs.Prelude.{Result, Ok, Err}
use Rattle.theory.specs.Greedy.{reserved}
use Rattle.site.specs.Record.{positions, size, fault_of}
use Rattle.site.specs.Reach.{net_of}
use Rattle.site.specs.declared.Site.{Site}
use Rattle.site.specs.declared.Fault.{Fault}
use Rattle.judges.specs.Judges.{counted}
use Rattle.planner.specs.Plan.{plan_answer, plan_table}
use Rattle.planner.specs.Given.{plan_given}
use Rattle.planner.specs.declared.PlanError.{PlanError}
use Rattle.planner.proofs.Meaning.{done-means}
use Rattle.wordtable.proofs.Same.{plan-kept-long}
use Rattle.renumbering.specs.Numbering.{Numbering, numbered, stuck, blank}
use Rattle.renumbering.specs.Renumbers.{AlwaysClass}
use Rattle.numbering.specs.Renumber.{numbering_of, renumber_of}
use Rattle.numbering.specs.Carried.{carry_answer, carry_table}
use Rattle.numbering.specs.Given.{renumber_given, carry_given}
use Rattle.numbering.specs.declared.Renumbered.{Renumbered}
use Rattle.numbering.specs.declared.RenumberError.TheVariants as Renumber
use Rattle.numbering.specs.declared.CarryError.{CarryError}
use Rattle.contracts.specs.NumberingSays.{Carry}
use Rattle.contracts.specs.PlannerSays.{Plan}
use Rattle.numbering.proofs.Given.{renumber-apart}
use Rattle.numbering.proofs.Ways.{renumber-refused, renumber-none, renumber-done}
use Rattle.numbering.proofs.Meaning.{none_exactly, renumber-site, carried-rest, plans-exactly, planned-back}
use Rattle.demanded.specs.Numbers.{done, refused}
use Rattle.demanded.specs.Demands.{Accepted, LongEnough, DefinitionOne, NestedSite}
use Rattle.promises.specs.Untouched.{Refused}
use Rattle.promises.specs.Numbered.{NoneNumbers, FindTheNumbering}
use Rattle.demanded.proofs.Numbers.{accepted-number, plan-number}
use Rattle.demanded.proofs.Demand2.{valid-is-definition-one}
use Rattle.demanded.proofs.Own.{nested-site}

module _ (s : Site) where
  pub renumber-number : renumber_given (renumber_of s).answer ≡ done ↔ (renumber_of s).answer ≡ Ok tt
  renumber-number = (renumber-apart (renumber_of s).answer (Ok tt), ap renumber_given)

  pub none_number : renumber_given (renumber_of s).answer ≡ refused 23 [] ↔ (renumber_of s).answer ≡ Err Renumber.NoNumbering
  none_number = (renumber-apart (renumber_of s).answer (Err Renumber.NoNumbering), ap renumber_given)

  pub twenty-three : Accepted s → renumber_given (renumber_of s).answer ≡ refused 23 [] ↔ NoneNumbers s
  twenty-three ok =
      let e = none_exactly s ((accepted-number s).0 ok) in
      (λ h. e.0 (none_number.0 h), λ h. none_number.1 (e.1 h))

  pub in-the-class : renumber_given (renumber_of s).answer ≡ done
      → (Accepted (renumber_of s).site) × (NestedSite (renumber_of s).site) × (AlwaysClass (net_of (renumber_of s).site))
  in-the-class h =
      let t = (renumber_of s).site in
      let r = renumber-site s (renumber-number.0 h) in
      ((accepted-number t).1 r.accepted, (nested-site t).1 (r.class (net_of t).load (counted t)), λ l. r.class l _)

  -- ---- refusals

  abbrev AsGiven : Type 0
  AsGiven = ((renumber_of s).site ≡ s) × ((renumber_of s).new ≡ blank 32) × ((renumber_of s).old ≡ blank 32)

  given-at : (f : Result Unit Fault) (x : Numbering) → fault_of s ≡ f → numbering_of s ≡ x → Refused (renumber_given (renumber_of s).answer).number → AsGiven
  given-at (Ok u) (numbered new old) e g z = absurd (z (ap (λ r. (renumber_given r.answer).number) (renumber-done s new old e g)))
  given-at (Ok u) stuck e g z = rw (renumber-none s e g) (refl, refl, refl)
  given-at (Err f) x e g z = rw (renumber-refused s f e) (refl, refl, refl)

  pub site-as-given : Refused (renumber_given (renumber_of s).answer).number → AsGiven
  site-as-given = given-at (fault_of s) (numbering_of s) refl refl

  -- ---- plans

  module _ (numbers : renumber_given (renumber_of s).answer ≡ done) (lent to : List ℕ) (long : LongEnough s lent) (fits : LongEnough s to) where
    abbrev now : Site
    now = (renumber_of s).site

    abbrev carried_back : List ℕ
    carried_back = carry_table s (plan_table now lent) to

    pub back : plan_given (plan_answer now lent) ≡ done
        → (carry_given (carry_answer s (plan_table now lent) to) ≡ done) × (DefinitionOne s carried_back) × (drop (size s) carried_back ≡ drop (size s) to)
    back e =
        let d = renumber-number.0 numbers in
        let p = (plan-number now lent).0 e in
        let b = planned-back s d lent to long fits p in
        let words : List ℕ = replicate (positions now) 0 in
        let room : positions now ≤ length words = omega (arith, length-replicate {A = ℕ} (positions now) 0) in
        let same = plan-kept-long now lent words ((done-means now lent).0 p).1 room (renumber-site s d).accepted in
        let kept : size s ≤ length (plan_table now lent) = omega (arith, long, same) in (
          ap carry_given b.0,
          (valid-is-definition-one s carried_back).0 b.1,
          carried-rest s d (plan_table now lent) to kept fits,
        )

    pub exactly : plan_given (plan_answer now lent) ≡ done ↔ ((any : List ℕ) × DefinitionOne s any)
    exactly = (
      λ e. (carried_back, (back e).1),
      λ v. (plan-number now lent).1
          ((plans-exactly s (renumber-number.0 numbers) lent to long fits).1 (reserved (positions s) v.0, (valid-is-definition-one s v.0).1 v.1)),
    )

-- what the calls answered and left is what the definitions say
planned-with : (site : Site) (found : Renumbered) → found ≡ renumber_of site → renumber_given found.answer ≡ done
    → (lent left : List ℕ) (planned : Result Unit PlanError) → LongEnough site lent → Plan found.site lent planned left
    → (to to' : List ℕ) (carried : Result Unit CarryError) → LongEnough site to → Carry site left to carried to'
    → (plan_given planned ≡ done ↔ ((any : List ℕ) × DefinitionOne site any))
    × (plan_given planned ≡ done → (carry_given carried ≡ done) × (DefinitionOne site to') × (drop (size site) to' ≡ drop (size site) to))
planned-with site found e h lent left planned long plans to to' carried fits carries =
    let numbers : renumber_given (renumber_of site).answer ≡ done = rw e at h in
    rw (carries.answer, carries.to_after, plans.answer, plans.table_after, e) (exactly site numbers lent to long fits, back site numbers lent to long fits)

pub find-the-numbering : FindTheNumbering
find-the-numbering = record {
  none_exactly = λ site ok found says. rw says.answer (twenty-three site ok);
  puts_in_the_class = λ site found says h. rw says.answer (in-the-class site (rw says.answer at h));
  as_given_holds = λ site found says z. rw says.answer (site-as-given site (rw says.answer at z));
  planned_exactly = λ site found says. planned-with site found says.answer;
}
