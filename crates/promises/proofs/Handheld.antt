-- W14 over the public calls: the theorems of crate `handheld`, by the calls' contracts and in the document's numbers. A change is one of two: it passes every
-- test, and then all is that of a fresh plan; or it is refused with another number than 5, and changes nothing. Assumes nothing.
use mathlib.Core.Path.{◌≡◌, refl, sym, ap, ◌∙◌}
use mathlib.Core.Bool.{Bool, true, false, false≢true}
use mathlib.Core.Logic.{◌⊎◌, inl, inr, ⊎_elim, ◌↔◌}
use mathlib.Core.List.{List, []}
use Prim.Native.Nat.{ℕ, ◌-◌, ◌*◌, ◌≤◌}
use native.Mathlib.Omega.{arith}
use borrow.Author.Tests.{ltb-false, eq-eqb}
use lib.Dec.{ltb, eqb}
use lib.ListN.{length, take}
use Rattle.std.specs.Prelude.{Result, Ok, Err}
use Rattle.laws.proofs.Choice.{refute}
use Rattle.theory.specs.Greedy.{Outcome, planned, no_room, greedy}
use Rattle.site.specs.Record.{positions, size, fault_of}
use Rattle.site.specs.Edit.{load_edit_fault, with_load}
use Rattle.site.specs.Reach.{net_of}
use Rattle.site.specs.Given.{done_given}
use Rattle.site.specs.declared.Site.{Site}
use Rattle.site.specs.declared.Edited.{Edited}
use Rattle.site.specs.declared.Fault.{Fault}
use Rattle.site.proofs.Faults.{load-edit-fine}
use Rattle.site.proofs.Given.{done-apart}
use Rattle.planner.specs.Plan.{answer_of, plan_answer, plan_table}
use Rattle.planner.specs.Given.{plan_given}
use Rattle.planner.specs.declared.PlanError.{PlanError}
use Rattle.planner.specs.declared.PlanError.TheVariants as Planner
use Rattle.planner.proofs.Answer.{run-answer}
use Rattle.handheld.specs.Change.{table_is_plan, change_of, in_order, change_answer, change_site, change_table}
use Rattle.handheld.specs.Given.{change_given}
use Rattle.handheld.specs.declared.ChangeError.{ChangeError}
use Rattle.handheld.specs.declared.ChangeError.TheVariants as Change
use Rattle.handheld.proofs.Given.{change-apart}
use Rattle.handheld.proofs.Ways.{edit-fault, edit-site, edited-fine}
use Rattle.handheld.proofs.Meaning.{plan-means, not-plan, fresh, lower-rows, next-good, left-long, two_edits}
use Rattle.contracts.specs.SiteSays.{SiteSetLoad}
use Rattle.contracts.specs.PlannerSays.{Plan}
use Rattle.contracts.specs.HandheldSays.{ChangeLoad}
use Rattle.demanded.specs.Numbers.{done, refused}
use Rattle.demanded.specs.Demands.{LongEnough}
use Rattle.promises.specs.Untouched.{Idle, RefusedElse}
use Rattle.promises.specs.Handheld.{IsThePlan, EditDone, OneLoadChanges}
use Rattle.demanded.proofs.Numbers.{plan-number}
use Rattle.promises.proofs.Demand1.{fault-other, plan-leaves}

-- a number that is neither 0 nor 5
neither : (n : ℕ) → eqb n 0 ≡ false → eqb n 5 ≡ false → RefusedElse n
neither n z f = (λ e. false≢true (sym z ∙ eq-eqb n 0 e), λ e. false≢true (sym f ∙ eq-eqb n 5 e))

-- the planner's numbers are this call's
same-given : (a : Result Unit PlanError) → change_given (change_of a) ≡ plan_given a
same-given (Ok u) = refl
same-given (Err Planner.TableShort) = refl
same-given (Err (Planner.NoRoom c m)) = refl
same-given (Err (Planner.Record f)) = refl

-- a run ends with 0 or with 5
zero-or-five : (o : Outcome) → RefusedElse (plan_given (answer_of o)).number → ⊥
zero-or-five (planned p) z = z.0 refl
zero-or-five (no_room c m) z = z.1 refl

-- the table is the plan
pub is-the-plan : (s : Site) (t : List ℕ) → fault_of s ≡ Ok tt → size s ≤ length t → table_is_plan s t ≡ true ↔ IsThePlan s t
is-the-plan s t fine long = (
  λ e said left says. let m = (plan-means s t fine long).0 e in (ap plan_given (says.answer ∙ m.0), says.table_after ∙ m.1),
  λ h.
      let z = h (plan_answer s t) (plan_table s t) (record { answer = refl; table_after = refl }) in
      (plan-means s t fine long).1 ((plan-number s t).0 z.0, z.1),
)

module _ (s : Site) (cell load : ℕ) (t : List ℕ) where
  abbrev new : Site
  new = with_load s (cell - 1) load

  abbrev Passed : Type 0
  Passed = (load_edit_fault s cell ≡ Ok tt) × (size s ≤ length t) × (table_is_plan s t ≡ true)

  abbrev Kept : Type 0
  Kept = (change_site s cell load t ≡ s) × (change_table s cell load t ≡ t) × RefusedElse (change_given (change_answer s cell load t)).number

  way_at : (f : Result Unit Fault) (short plan : Bool) → load_edit_fault s cell ≡ f → ltb (length t) (size s) ≡ short → table_is_plan s t ≡ plan → Passed ⊎ Kept
  unfolding in_order
  way_at (Ok u) false true e h g = inl (e, ltb-false (length t) (size s) h, g)
  way_at (Ok u) false false e h g = inr (rw (e, h, g) (refl, refl, neither 26 refl refl))
  way_at (Ok u) true plan e h g = inr (rw (e, h) (refl, refl, neither 4 refl refl))
  way_at (Err f) short plan e h g = inr (rw e (refl, refl, fault-other f))

  way : Passed ⊎ Kept
  way = way_at (load_edit_fault s cell) (ltb (length t) (size s)) (table_is_plan s t) refl refl refl

  -- the number of a change that passed is the fresh plan's
  number_is : Passed → change_given (change_answer s cell load t) ≡ plan_given (plan_answer new t)
  number_is p = ap change_given (fresh s cell load t p.0 p.1 p.2).0 ∙ same-given (plan_answer new t)

  -- ---- what a refusal leaves

  pub change-untouched : RefusedElse (change_given (change_answer s cell load t)).number
      → (change_site s cell load t ≡ s) × (change_table s cell load t ≡ t)
  change-untouched z =
      ⊎_elim
      (λ p.
      let e = number_is p ∙ ap plan_given (run-answer new t (edited-fine s cell load p.0) p.1) in
      absurd (zero-or-five (greedy (net_of new)) (rw e at z)))
      (λ k. (k.0, k.1)) way

  passed-with : (n : ℕ) → (change_given (change_answer s cell load t)).number ≡ n → (RefusedElse n → ⊥) → Passed
  passed-with n e never = ⊎_elim (λ p. p) (λ k. absurd (never (rw e at k.2))) way

  pub change-no-room : (change_given (change_answer s cell load t)).number ≡ 5
      → (change_site s cell load t ≡ with_load s (cell - 1) load) × (Idle (size s) t (change_table s cell load t)) × (load_edit_fault s cell ≡ Ok tt)
  change-no-room e =
      let p = passed-with 5 e (λ z. z.1 refl) in
      let f = fresh s cell load t p.0 p.1 p.2 in
      let five : (plan_given (plan_answer new t)).number ≡ 5 = sym (ap (λ g. g.number) (number_is p)) ∙ e in
      (f.1, f.2 ∙ (plan-leaves new t).if_no_room five, p.0)

  -- ---- where it is done

  done-passed : change_given (change_answer s cell load t) ≡ done → Passed × (plan_answer new t ≡ Ok tt)
  done-passed e =
      let p = passed-with 0 (ap (λ g. g.number) e) (λ z. z.0 refl) in
      (p, (plan-number new t).0 (sym (number_is p) ∙ e))

  -- ---- 26

  pub twenty-six : change_given (change_answer s cell load t) ≡ refused 26 []
      ↔ ((done_given (load_edit_fault s cell) ≡ done) × (LongEnough s t) × (IsThePlan s t → ⊥))
  twenty-six = (
    λ e.
        let m = (not-plan s cell load t).0 (change-apart (change_answer s cell load t) (Err Change.NotPlan) e) in
        let fine = (load-edit-fine s cell m.0).was-fine in
        (ap done_given m.0, m.1, λ h. false≢true (sym m.2 ∙ (is-the-plan s t fine m.1).1 h)),
    λ h.
        let f = done-apart (load_edit_fault s cell) (Ok tt) h.0 in
        let fine = (load-edit-fine s cell f).was-fine in
        let other = refute (table_is_plan s t) (λ e. h.2 ((is-the-plan s t fine h.1).0 e)) in
        ap change_given ((not-plan s cell load t).1 (f, h.1, other)),
  )

-- ---- over the contracts

module _ (s s' : Site) (cell load : ℕ) (t t' : List ℕ) (r : Result Unit ChangeError) (says : ChangeLoad s cell load t r s' t') where
  number : change_given r ≡ done → change_given (change_answer s cell load t) ≡ done
  number e = ap change_given (sym says.answer) ∙ e

  module _ (edited : Edited) (sets : SiteSetLoad s cell load edited) where
    fine-edit : EditDone edited → load_edit_fault s cell ≡ Ok tt
    fine-edit e = sym (edit-fault s cell load sets.answer) ∙ done-apart edited.answer (Ok tt) e

    pub not_the_plan : change_given r ≡ refused 26 [] ↔ ((EditDone edited) × (LongEnough s t) × (IsThePlan s t → ⊥))
    not_the_plan = rw (says.answer, edit-fault s cell load sets.answer) (twenty-six s cell load t)

    pub fresh_plan : LongEnough s t → IsThePlan s t → EditDone edited → (left : List ℕ) (said : Result Unit PlanError) → Plan edited.site t said left
        → (s' ≡ edited.site) × (t' ≡ left) × (change_given r ≡ plan_given said)
    fresh_plan long plan ok left said plans =
        let f = fine-edit ok in
        let is = (is-the-plan s t (load-edit-fine s cell f).was-fine long).1 plan in
        let made = fresh s cell load t f long is in
        let new_is : edited.site ≡ with_load s (cell - 1) load = edit-site s cell load sets.answer f in (
          says.site_after ∙ made.1 ∙ sym new_is,
          says.table_after ∙ made.2 ∙ sym (plans.table_after ∙ ap (λ (x : Site). plan_table x t) new_is),
          ap change_given says.answer ∙ number_is s cell load t (f, long, is)
              ∙ sym (ap plan_given (plans.answer ∙ ap (λ (x : Site). plan_answer x t) new_is)),
        )

    pub five-keeps : (change_given r).number ≡ 5 → (s' ≡ edited.site) × (Idle (size s) t t')
    five-keeps e =
        let k = change-no-room s cell load t (ap (λ a. (change_given a).number) (sym says.answer) ∙ e) in
        (says.site_after ∙ k.0 ∙ sym (edit-site s cell load sets.answer k.2), says.table_after ∙ k.1)

  -- where it is done: the record is the edited one, without a fault, and the table is its plan
  module _ (ok : change_given r ≡ done) where
    abbrev passed : (Passed s cell load t) × (plan_answer (with_load s (cell - 1) load) t ≡ Ok tt)
    passed = done-passed s cell load t (number ok)

    pub lower_rows_stay : take ((cell - 1) * positions s) t' ≡ take ((cell - 1) * positions s) t
    lower_rows_stay =
        let p = passed in
        ap (take ((cell - 1) * positions s)) says.table_after ∙ lower-rows s cell load t p.0.0 p.0.1 p.0.2 p.1

    new-site : s' ≡ with_load s (cell - 1) load
    new-site = let p = passed in says.site_after ∙ (fresh s cell load t p.0.0 p.0.1 p.0.2).1

    new-long : size s ≤ length t'
    new-long =
        let p = passed in
        let e = left-long s cell load t p.0.0 p.0.1 p.0.2 p.1 in
        let l : length t' ≡ length t = ap length says.table_after ∙ e in
        omega (arith, l, p.0.1)

    new-plan : table_is_plan (with_load s (cell - 1) load) t' ≡ true
    new-plan =
        let p = passed in
        ap (table_is_plan (with_load s (cell - 1) load)) says.table_after ∙ next-good s cell load t p.0.0 p.0.1 p.0.2 p.1

    pub leaves_the_plan : (LongEnough s' t') × (IsThePlan s' t')
    leaves_the_plan =
        rw new-site (new-long, (is-the-plan (with_load s (cell - 1) load) t' (edited-fine s cell load passed.0.0) new-long).0 new-plan)

    module _ (last : Site) (cell₂ load₂ : ℕ) (t'' : List ℕ) (q : Result Unit ChangeError) (then : ChangeLoad s' cell₂ load₂ t' q last t'') where
      pub next_not_26 : change_given q ≡ refused 26 [] → ⊥
      next_not_26 e =
          let z = (twenty-six s' cell₂ load₂ t').0 (ap change_given (sym then.answer) ∙ e) in
          z.2 leaves_the_plan.1

      module _ (edited : Edited) (sets : SiteSetLoad s cell load edited) (again : Edited) (resets : SiteSetLoad edited.site cell₂ load₂ again)
          (good : EditDone again) where
        abbrev once : Site
        once = with_load s (cell - 1) load

        abbrev twice : Site
        twice = with_load (with_load s (cell - 1) load) (cell₂ - 1) load₂

        once_is : edited.site ≡ once
        once_is = edit-site s cell load sets.answer passed.0.0

        fine-again : load_edit_fault edited.site cell₂ ≡ Ok tt
        fine-again = sym (edit-fault edited.site cell₂ load₂ resets.answer) ∙ done-apart again.answer (Ok tt) good

        fine₂ : load_edit_fault once cell₂ ≡ Ok tt
        fine₂ = ap (λ (x : Site). load_edit_fault x cell₂) (sym once_is) ∙ fine-again

        twice-is : again.site ≡ twice
        twice-is =
            edit-site edited.site cell₂ load₂ resets.answer fine-again ∙ ap (λ (x : Site). with_load x (cell₂ - 1) load₂) once_is

        pub two-fresh : (left : List ℕ) (said : Result Unit PlanError) → Plan again.site t said left
            → (last ≡ again.site) × (t'' ≡ left) × (change_given q ≡ plan_given said)
        two-fresh left said plans =
            let p = passed in
            let ok₂ = edited-fine once cell₂ load₂ fine₂ in (
              then.site_after ∙ ap (λ (x : Site). change_site x cell₂ load₂ t') new-site
                  ∙ (fresh once cell₂ load₂ t' fine₂ new-long new-plan).1 ∙ sym twice-is,
              then.table_after ∙ ap (λ (x : Site). change_table x cell₂ load₂ t') new-site ∙ ap (change_table once cell₂ load₂) says.table_after
                  ∙ two_edits s cell load t p.0.0 p.0.1 p.0.2 p.1 cell₂ load₂ fine₂
                  ∙ sym (plans.table_after ∙ ap (λ (x : Site). plan_table x t) twice-is),
              ap change_given (then.answer ∙ ap (λ (x : Site). change_answer x cell₂ load₂ t') new-site)
                  ∙ number_is once cell₂ load₂ t' (fine₂, new-long, new-plan)
                  ∙ ap plan_given (run-answer twice t' ok₂ new-long ∙ sym (run-answer twice t ok₂ p.0.1))
                  ∙ sym (ap plan_given (plans.answer ∙ ap (λ (x : Site). plan_answer x t) twice-is)),
            )

pub one-load-changes : OneLoadChanges
one-load-changes = record {
  not_the_plan = λ s s' cell load t t' r says edited sets. not_the_plan s s' cell load t t' r says edited sets;
  fresh_plan = λ s s' cell load t t' r says long plan edited sets ok. fresh_plan s s' cell load t t' r says edited sets long plan ok;
  lower_rows_stay = λ s s' cell load t t' r says ok. lower_rows_stay s s' cell load t t' r says ok;
  leaves_the_plan = λ s s' cell load t t' r says ok. leaves_the_plan s s' cell load t t' r says ok;
  next_not_26 = λ s s' last cell load cell₂ load₂ t t' t'' r q says ok then. next_not_26 s s' cell load t t' r says ok last cell₂ load₂ t'' q then;
  two_edits = λ s s' last cell load cell₂ load₂ t t' t'' r q says ok then edited sets again resets good.
      two-fresh s s' cell load t t' r says ok last cell₂ load₂ t'' q then edited sets again resets good;
  five_keeps_the_edit = λ s s' cell load t t' r says e edited sets. five-keeps s s' cell load t t' r says edited sets e;
}
