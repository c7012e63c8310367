-- What a change of a load means.
--     plan-means        the table is the plan exactly where the planner is done and would leave it as it is
--     change-refused    the record's own fault exactly where it has one, whatever the cell and the table
--     change-two        of a record with no fault 2 with the cell exactly where the site does not have it, and no other fault
--     change-four       4 exactly where the record has no fault, the site has the cell, and the table is shorter than the site's
--     not-plan          26 exactly where the record and the edit have no fault, the table is long enough and is not the plan
--     changed-nothing   26 changes neither the record nor the table
--     fresh             else the answer, the record and the table are a fresh plan of the edited site
--     lower-rows        where it is done, the rows of lower cells are as they were
--     next-good         where it is done, the next edit is not 26
--     two_edits         two edits in a row are the fresh plan of both
--     after-five        after a 5 no table is the plan, so that the next edit is 26
-- Assumes nothing.
use mathlib.Core.Path.{◌≡◌, refl, sym, ap, ◌∙◌}
use mathlib.Core.Bool.{Bool, true, false, true≢false}
use mathlib.Core.Logic.{◌⊎◌, inl, inr, ⊎_elim, ◌↔◌}
use mathlib.Core.List.{List, ◌++◌}
use Prim.Native.Nat.{ℕ, zero, suc, ◌-◌, ◌*◌, ◌≤◌, ◌<◌}
use native.Mathlib.Nat.{mul-le-mul_right}
use native.Mathlib.Omega.{arith}
use borrow.Author.Tests.{ltb-true, ltb-false}
use lib.Dec.{ltb}
use lib.ListN.{length, take, drop, take-append-drop, length-append, length-drop}
use lib.Seq.{take_at, drop_at, take-append-le}
use Rattle.laws.specs.Choice.{pick}
use Rattle.laws.proofs.Choice.{cases}
use Rattle.theory.specs.Greedy.{row, Outcome, planned, no_room, greedy, Plans}
use Rattle.theory.specs.Plan.{comes_to, is_plan}
use Rattle.theory.proofs.Exact.{greedy-fair, planned-size}
use Rattle.theory.proofs.Plan.{is-plan}
use Rattle.theory.proofs.Run.{run-begins, is-planned}
use Rattle.site.specs.Record.{size, positions, fault_of, is_fine}
use Rattle.site.specs.Edit.{load_edit_fault, with_load, set_load_of, answered}
use Rattle.site.specs.Means.{UpTo, EditMeans}
use Rattle.site.specs.Reach.{clash_of, is_open, net_of}
use Rattle.site.specs.declared.Site.{Site}
use Rattle.site.specs.declared.Fault.{Fault}
use Rattle.site.specs.declared.Fault.TheVariants.{Load}
use Rattle.site.proofs.Faults.{load-edit-fine}
use Rattle.site.proofs.Means.{set-load-answer}
use Rattle.planner.specs.Plan.{answer_of, table_of, plan_answer, plan_table}
use Rattle.planner.proofs.Answer.{run-answer, run-table}
use Rattle.planner.proofs.Meaning.{done-means, plan-refused}
use Rattle.std.specs.Prelude.{Result, Ok, Err}
use Rattle.planner.specs.declared.PlanError.{PlanError}
use Rattle.planner.specs.declared.PlanError.TheVariants as Plan
use Rattle.rowapart.proofs.Runs.{plan-front}
use Rattle.handheld.specs.Change.{table_is_plan, change_of, by_fault, in_order, change_answer, change_site, change_table}
use Rattle.handheld.specs.declared.ChangeError.{ChangeError}
use Rattle.handheld.specs.declared.ChangeError.TheVariants.{TableShort, NotPlan, Record}
use Rattle.handheld.proofs.Loads.{planned-before}
use Rattle.handheld.proofs.Ways.{way-refused, way-short, way-other, way-done, edited-fine}

-- ---- the table is the plan

-- the planner's table, where the greedy run plans p
planned-table : (s : Site) (t p : List ℕ) → fault_of s ≡ Ok tt → size s ≤ length t → greedy (net_of s) ≡ planned p → plan_table s t ≡ p ++ drop (size s) t
planned-table s t p fine long e = run-table s t fine long ∙ ap (λ o. table_of (size s) o ++ drop (size s) t) e

-- a table that begins with what the greedy run plans
begins-plan : (s : Site) (p rest : List ℕ) → greedy (net_of s) ≡ planned p → table_is_plan s (p ++ rest) ≡ true
begins-plan s p rest e =
    (is-plan (net_of s) (p ++ rest)).1 (e ∙ ap planned (sym (take_at p rest (size s) (planned-size (net_of s) p e))))

pub plan-means : (s : Site) (t : List ℕ) → fault_of s ≡ Ok tt → size s ≤ length t
    → (table_is_plan s t ≡ true) ↔ ((plan_answer s t ≡ Ok tt) × (plan_table s t ≡ t))
plan-means s t fine long = (
  λ e.
      let ran = (is-plan (net_of s) t).0 e in
      (run-answer s t fine long ∙ ap answer_of ran, planned-table s t (take (size s) t) fine long ran ∙ take-append-drop (size s) t),
  λ h.
      let ran = ((done-means s t).0 h.0).2 in
      let is : ran.0 ++ drop (size s) t ≡ t = sym (planned-table s t ran.0 fine long ran.1) ∙ h.1 in
      ap (table_is_plan s) (sym is) ∙ begins-plan s ran.0 (drop (size s) t) ran.1,
)

-- ---- "record faults, 2 for the edit, 4"

-- a number that is not 1 to n
outside : (n k : ℕ) → (UpTo n k → ⊥) → (k ≡ 0) ⊎ (n < k)
outside n zero out = inl refl
outside n (suc k) out = ⊎_elim (λ h. inr (ltb-true n (suc k) h)) (λ h. absurd (out (omega arith, ltb-false n (suc k) h))) (cases (ltb n (suc k)))

-- the answer, by the edit's fault, by what is asked of the table, and by what the planner answers
abbrev answer_by : Result Unit Fault → (short plan : Bool) → Result Unit PlanError → Result Unit ChangeError
answer_by f short plan a = by_fault (λ g. Err (Record g)) f (pick short (Err TableShort) (pick plan (change_of a) (Err NotPlan)))

refused-of : (f : Result Unit Fault) (g : Fault) (short plan : Bool) (a : Result Unit PlanError)
    → (f ≡ Ok tt → (k : Fault) → a ≡ Err (Plan.Record k) → ⊥) → answer_by f short plan a ≡ Err (Record g) → f ≡ Err g
refused-of (Ok u) g true plan a bar e = cc
refused-of (Ok u) g false true (Ok v) bar e = cc
refused-of (Ok u) g false true (Err Plan.TableShort) bar e = cc
refused-of (Ok u) g false true (Err (Plan.NoRoom c m)) bar e = cc
refused-of (Ok u) g false true (Err (Plan.Record k)) bar e = absurd (bar refl k refl)
refused-of (Ok u) g false false a bar e = cc
refused-of (Err f) g short plan a bar e = cc

four-of : (f : Result Unit Fault) (short plan : Bool) (a : Result Unit PlanError)
    → (f ≡ Ok tt → short ≡ false → a ≡ Err Plan.TableShort → ⊥) → answer_by f short plan a ≡ Err TableShort → (f ≡ Ok tt) × (short ≡ true)
four-of (Ok u) true plan a bar e = (refl, refl)
four-of (Ok u) false true (Ok v) bar e = cc
four-of (Ok u) false true (Err Plan.TableShort) bar e = absurd (bar refl refl refl)
four-of (Ok u) false true (Err (Plan.NoRoom c m)) bar e = cc
four-of (Ok u) false true (Err (Plan.Record k)) bar e = cc
four-of (Ok u) false false a bar e = cc
four-of (Err f) short plan a bar e = cc

not_short : (o : Outcome) → answer_of o ≡ Err Plan.TableShort → ⊥
not_short (planned p) e = cc
not_short (no_room k m) e = cc

fault-is : (r : Result Unit Fault) → is_fine r ≡ false → (f : Fault) × (r ≡ Err f)
fault-is (Ok u) e = absurd (true≢false e)
fault-is (Err f) e = (f, refl)

module _ (s : Site) (cell load : ℕ) (t : List ℕ) where
  abbrev after : Site
  after = with_load s (cell - 1) load

  -- what an edit of this load is answered
  said : EditMeans s (UpTo s.cells cell) (Load cell) (load_edit_fault s cell)
  unfolding set_load_of answered
  said = set-load-answer s cell load

  -- "record faults": the record's own is answered exactly where it has one, whatever the cell and the table
  pub change-refused : ((f : Fault) × (fault_of s ≡ Err f) × (change_answer s cell load t ≡ Err (Record f))) ↔ (is_fine (fault_of s) ≡ false)
  change-refused = (
    λ p. ap is_fine p.1,
    λ h.
        let own : load_edit_fault s cell ≡ fault_of s = said.faulty (λ e. true≢false (sym (ap is_fine e) ∙ h)) in
        let has = fault-is (fault_of s) h in (
          has.0,
          has.1,
          way-refused s cell t (λ f. Err (Record f)) (Err TableShort) (Err NotPlan) (change_of (plan_answer after t)) has.0 (own ∙ has.1),
        ),
  )

  -- then "2 for the edit": of a record with no fault, exactly where the cell is 0 or beyond the site's, with the cell, and no other fault
  pub change-two : fault_of s ≡ Ok tt → (f : Fault)
      → (change_answer s cell load t ≡ Err (Record f)) ↔ ((f ≡ Load cell) × ((cell ≡ 0) ⊎ (s.cells < cell)))
  unfolding in_order
  change-two fine f = (
    λ e.
        let w : load_edit_fault s cell ≡ Err f
        = refused-of (load_edit_fault s cell) f (ltb (length t) (size s)) (table_is_plan s t) (plan_answer after t) never e in
        let out : UpTo s.cells cell → ⊥ = λ u. true≢false (sym (ap is_fine (said.done fine u)) ∙ ap is_fine w) in
        let own : load_edit_fault s cell ≡ Err (Load cell) = said.refused fine out in
        (cc, outside s.cells cell out),
    λ h.
        let own : load_edit_fault s cell ≡ Err (Load cell)
        = said.refused fine (λ u. ⊎_elim (λ z. omega (arith, u.0)) (λ z. omega (arith, u.1)) h.1) in
        way-refused s cell t (λ g. Err (Record g)) (Err TableShort) (Err NotPlan) (change_of (plan_answer after t)) (Load cell) own
        ∙ ap (λ (g : Fault). Err (Record g)) (sym h.0),
  )
    where
      never : load_edit_fault s cell ≡ Ok tt → (k : Fault) → plan_answer after t ≡ Err (Plan.Record k) → ⊥
      never e k q = true≢false (sym (ap is_fine (edited-fine s cell load e)) ∙ ap is_fine ((plan-refused after t k).0 q))

  -- then "4": exactly where the record has no fault, the site has the cell, and the table is shorter than the site's
  pub change-four : (change_answer s cell load t ≡ Err TableShort) ↔ ((fault_of s ≡ Ok tt) × UpTo s.cells cell × (length t < size s))
  unfolding in_order
  change-four = (
    λ e.
        let w = four-of (load_edit_fault s cell) (ltb (length t) (size s)) (table_is_plan s t) (plan_answer after t) never e in
        let d = load-edit-fine s cell w.0 in
        (d.was-fine, (d.named.from_one, d.named.to-cells), ltb-true (length t) (size s) w.1),
    λ h.
        way-short s cell t (λ f. Err (Record f)) (Err TableShort) (Err NotPlan) (change_of (plan_answer after t)) (said.done h.0 h.1) h.2,
  )
    where
      never : load_edit_fault s cell ≡ Ok tt → ltb (length t) (size s) ≡ false → plan_answer after t ≡ Err Plan.TableShort → ⊥
      never e l q =
          not_short (greedy (net_of after)) (sym (run-answer after t (edited-fine s cell load e) (ltb-false (length t) (size s) l)) ∙ q)

-- ---- 26

never-not : (a : Result Unit PlanError) → change_of a ≡ Err NotPlan → ⊥
never-not (Ok u) e = cc
never-not (Err Plan.TableShort) e = cc
never-not (Err (Plan.NoRoom c m)) e = cc
never-not (Err (Plan.Record f)) e = cc

not-of : (f : Result Unit Fault) (short plan : Bool) (a : Result Unit PlanError)
    → answer_by f short plan a ≡ Err NotPlan → (f ≡ Ok tt) × (short ≡ false) × (plan ≡ false)
not-of (Ok u) true plan a e = cc
not-of (Ok u) false true a e = absurd (never-not a e)
not-of (Ok u) false false a e = (refl, refl, refl)
not-of (Err f) short plan a e = cc

module _ (s : Site) (cell load : ℕ) (t : List ℕ) where
  abbrev new : Site
  new = with_load s (cell - 1) load

  pub not-plan : (change_answer s cell load t ≡ Err NotPlan) ↔ ((load_edit_fault s cell ≡ Ok tt) × (size s ≤ length t) × (table_is_plan s t ≡ false))
  unfolding in_order
  not-plan = (
    λ e.
        let z = not-of (load_edit_fault s cell) (ltb (length t) (size s)) (table_is_plan s t) (plan_answer new t) e in
        (z.0, ltb-false (length t) (size s) z.1, z.2),
    λ h. way-other s cell t (λ f. Err (Record f)) (Err TableShort) (Err NotPlan) (change_of (plan_answer new t)) h.0 h.1 h.2,
  )

  pub changed-nothing : change_answer s cell load t ≡ Err NotPlan → (change_site s cell load t ≡ s) × (change_table s cell load t ≡ t)
  changed-nothing e =
      let h = not-plan.0 e in
      (way-other s cell t (λ f. s) s s new h.0 h.1 h.2, way-other s cell t (λ f. t) t t (plan_table new t) h.0 h.1 h.2)

  -- ---- the fresh plan

  module _ (fine : load_edit_fault s cell ≡ Ok tt) (long : size s ≤ length t) (plan : table_is_plan s t ≡ true) where
    pub fresh : (change_answer s cell load t ≡ change_of (plan_answer (with_load s (cell - 1) load) t))
        × (change_site s cell load t ≡ with_load s (cell - 1) load)
        × (change_table s cell load t ≡ plan_table (with_load s (cell - 1) load) t)
    fresh = (
      way-done s cell t (λ f. Err (Record f)) (Err TableShort) (Err NotPlan) (change_of (plan_answer new t)) fine long plan,
      way-done s cell t (λ f. s) s s new fine long plan,
      way-done s cell t (λ f. t) t t (plan_table new t) fine long plan,
    )

    new-fine : fault_of new ≡ Ok tt
    new-fine = edited-fine s cell load fine

    module _ (done : plan_answer (with_load s (cell - 1) load) t ≡ Ok tt) where
      ran : Plans (net_of new)
      ran = ((done-means new t).0 done).2

      left : change_table s cell load t ≡ ran.0 ++ drop (size s) t
      left = fresh.2 ∙ planned-table new t ran.0 new-fine long ran.1

      pub lower-rows : take ((cell - 1) * positions s) (change_table s cell load t) ≡ take ((cell - 1) * positions s) t
      lower-rows =
          let k : ℕ = cell - 1 in
          let named = load-edit-fine s cell fine in
          let low : k ≤ s.cells = omega (arith, named) in
          let size-p : length ran.0 ≡ size s = planned-size (net_of new) ran.0 ran.1 in
          let within : k * positions s ≤ length ran.0 = omega (arith, mul-le-mul_right (positions s) low) in
          let stood = planned-before s.cells (positions s) s.loads (clash_of s)
          (is_open s.blocked) k load t (plan-front (net_of s) t plan k low) in
          ap (take (k * positions s)) left
          ∙ take-append-le (k * positions s) ran.0 (drop (size s) t) within
          ∙ is-planned (take (k * positions s) ran.0) (take (k * positions s) t)
          (sym (run-begins (net_of new) (row (net_of new)) (greedy-fair (net_of new)) s.cells ran.0 ran.1 k low) ∙ stood)

      pub next-good : table_is_plan (with_load s (cell - 1) load) (change_table s cell load t) ≡ true
      next-good = ap (table_is_plan new) left ∙ begins-plan new ran.0 (drop (size s) t) ran.1

      pub left-long : length (change_table s cell load t) ≡ length t
      left-long =
          let size-p : length ran.0 ≡ size s = planned-size (net_of new) ran.0 ran.1 in
          ap length left ∙ length-append ran.0 (drop (size s) t) ∙ (let e = length-drop (size s) t in omega arith)

      -- the second edit's fresh plan, over what the first left, is its fresh plan over the first table
      pub two_edits : (cell₂ load₂ : ℕ) → load_edit_fault (with_load s (cell - 1) load) cell₂ ≡ Ok tt
          → change_table (with_load s (cell - 1) load) cell₂ load₂ (change_table s cell load t)
          ≡ plan_table (with_load (with_load s (cell - 1) load) (cell₂ - 1) load₂) t
      two_edits cell₂ load₂ fine₂ =
          let u : List ℕ = change_table s cell load t in
          let last : Site = with_load new (cell₂ - 1) load₂ in
          let long₂ : size s ≤ length u = omega (arith, left-long) in
          let past : drop (size s) u ≡ drop (size s) t
          = ap (drop (size s)) left ∙ drop_at ran.0 (drop (size s) t) (size s) (planned-size (net_of new) ran.0 ran.1) in
          way-done new cell₂ u (λ f. u) u u (plan_table last u) fine₂ long₂ next-good
          ∙ run-table last u (edited-fine new cell₂ load₂ fine₂) long₂
          ∙ ap (λ (l : List ℕ). table_of (size s) (greedy (net_of last)) ++ l) past
          ∙ sym (run-table last t (edited-fine new cell₂ load₂ fine₂) long)

    -- ---- after a 5

    pub after-five : (c m : ℕ) → plan_answer (with_load s (cell - 1) load) t ≡ Err (Plan.NoRoom c m) → (u : List ℕ) (cell₂ load₂ : ℕ)
        → load_edit_fault (with_load s (cell - 1) load) cell₂ ≡ Ok tt → size s ≤ length u
        → change_answer (with_load s (cell - 1) load) cell₂ load₂ u ≡ Err NotPlan
    unfolding is_plan
    after-five c m e u cell₂ load₂ fine₂ long₂ =
        let fails : answer_of (greedy (net_of new)) ≡ Err (Plan.NoRoom c m) = sym (run-answer new t new-fine long) ∙ e in
        let no-plan : table_is_plan new u ≡ false = short-outcome (greedy (net_of new)) (take (size s) u) c m fails in
        way-other new cell₂ u (λ f. Err (Record f)) (Err TableShort) (Err NotPlan) (change_of (plan_answer (with_load new (cell₂ - 1) load₂) u)) fine₂ long₂
        no-plan
      where
        short-outcome : (o : Outcome) (u : List ℕ) (c m : ℕ) → answer_of o ≡ Err (Plan.NoRoom c m) → comes_to o u ≡ false
        short-outcome (planned p) u c m e = cc
        short-outcome (no_room k l) u c m e = refl
