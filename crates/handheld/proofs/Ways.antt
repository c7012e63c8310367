-- The ways that a change of a load goes, by the first refusal that applies; and what it asks of the plan from the cell on. Assumes nothing.
use mathlib.Core.Path.{◌≡◌, refl, sym, ap, subst, ◌∙◌}
use mathlib.Core.Bool.{Bool, true, false}
use mathlib.Core.List.{List}
use Prim.Native.Nat.{ℕ, ◌-◌, ◌*◌, ◌≤◌, ◌<◌}
use borrow.Author.Tests.{lt-ltb, le-ltb}
use lib.ListN.{length}
use Rattle.laws.specs.Bits.{bit_in}
use Rattle.theory.specs.Net.{Net}
use Rattle.site.specs.Record.{size, positions, fault_of}
use Rattle.site.specs.Edit.{load_edit_fault, with_load, set_load_of, answered}
use Rattle.site.specs.Reach.{clash_of, is_open, net_in, net_by, net_of}
use Rattle.site.specs.declared.Site.{Site}
use Rattle.site.specs.declared.Edited.{Edited}
use Rattle.site.specs.declared.Fault.{Fault}
use Rattle.std.specs.Prelude.{Result, Ok, Err}
use Rattle.site.proofs.Edits.{done-new, set-load-fine}
use Rattle.site.proofs.Faults.{load-edit-fine, fine-sized, few-positions, few_bytes}
use Rattle.planner.proofs.Before.{either_way}
use Rattle.planner.proofs.Answer.{run-answer, run-table}
use Rattle.planner.specs.Loop.{PlannedTo}
use Rattle.rowapart.proofs.Runs.{plan-front}
use Rattle.planner.specs.Plan.{plan_answer, plan_table}
use Rattle.handheld.specs.Change.{table_is_plan, change_of, in_order, change_table, changed_of}
use Rattle.handheld.specs.declared.Changed.{Changed}
use Rattle.handheld.specs.declared.ChangeError.{ChangeError}
use Rattle.handheld.specs.declared.ChangeError.TheVariants.{TableShort, NotPlan, Record}
use Rattle.handheld.proofs.Loads.{planned-before}

module _ (s : Site) (cell : ℕ) (t : List ℕ) {A : Type 0} (refused : Fault → A) (short other done : A) where
  pub way-refused : (f : Fault) → load_edit_fault s cell ≡ Err f → in_order s cell t refused short other done ≡ refused f
  unfolding in_order
  way-refused f e = rw e

  module _ (fine : load_edit_fault s cell ≡ Ok tt) where
    pub way-short : length t < size s → in_order s cell t refused short other done ≡ short
    unfolding in_order
    way-short h = rw (fine, lt-ltb (length t) (size s) h)

    pub way-other : size s ≤ length t → table_is_plan s t ≡ false → in_order s cell t refused short other done ≡ other
    unfolding in_order
    way-other h e = rw (fine, le-ltb (length t) (size s) h, e)

    pub way-done : size s ≤ length t → table_is_plan s t ≡ true → in_order s cell t refused short other done ≡ done
    unfolding in_order
    way-done h e = rw (fine, le-ltb (length t) (size s) h, e)

-- the edit by value
pub edit-fault : (s : Site) (cell v : ℕ) {e : Edited} → e ≡ set_load_of s cell v → e.answer ≡ load_edit_fault s cell
unfolding set_load_of answered
edit-fault s cell v is = ap (λ (r : Edited). r.answer) is

pub edit-site : (s : Site) (cell v : ℕ) {e : Edited} → e ≡ set_load_of s cell v → load_edit_fault s cell ≡ Ok tt → e.site ≡ with_load s (cell - 1) v
unfolding set_load_of
edit-site s cell v is fine = ap (λ (r : Edited). r.site) is ∙ done-new (load_edit_fault s cell) (with_load s (cell - 1) v) s fine

-- the edit is done and the table is the plan: the record and the table are the fresh plan's
pub ends-done : (s : Site) (cell v : ℕ) (t : List ℕ) → load_edit_fault s cell ≡ Ok tt → size s ≤ length t → table_is_plan s t ≡ true
    → {new : Site} → new ≡ with_load s (cell - 1) v → {a : Result Unit ChangeError} → a ≡ change_of (plan_answer (with_load s (cell - 1) v) t)
    → {u : List ℕ} → u ≡ plan_table (with_load s (cell - 1) v) t
    → (◌≡◌ {A = Changed} (record { site = new; answer = a }) (changed_of s cell v t)) × (u ≡ change_table s cell v t)
ends-done s cell v t fine long plan is said left =
    let after : Site = with_load s (cell - 1) v in (
      (λ x. record {
        site = (is ∙ sym (way-done s cell t (λ f. s) s s after fine long plan)) x;
        answer = (said ∙ sym (way-done s cell t (λ f. Err (Record f)) (Err TableShort) (Err NotPlan) (change_of (plan_answer after t)) fine long plan)) x;
      }),
      left ∙ sym (way-done s cell t (λ f. t) t t (plan_table after t) fine long plan),
    )

-- ---- the plan from the cell on

module _ (s : Site) (rows : List ℕ) (is : bit_in rows ≡ clash_of s) where
  pub same-net : net_by s.cells (positions s) s.loads rows (is_open s.blocked) ≡ net_of s
  same-net = ap (λ (f : ℕ → ℕ → Bool). net_in s.cells (positions s) s.loads f (is_open s.blocked)) is

  -- the loads are those of the edited site
  module _ (k v : ℕ) {new : Site} (edited : new ≡ with_load s k v) where
    pub new-net : net_by s.cells (positions s) new.loads rows (is_open s.blocked) ≡ net_of (with_load s k v)
    new-net = (λ x. net_in s.cells (positions s) (edited x).loads (is x) (is_open s.blocked))

    pub stands : (t : List ℕ) → table_is_plan s t ≡ true → k ≤ s.cells → PlannedTo (net_by s.cells (positions s) new.loads rows (is_open s.blocked)) k t
    stands t e h =
        subst (λ (n : Net). PlannedTo n k t) (sym new-net)
        (planned-before s.cells (positions s) s.loads (clash_of s) (is_open s.blocked) k v t (plan-front (net_of s) t e k h))

-- the edited record has no fault
pub edited-fine : (s : Site) (cell v : ℕ) → load_edit_fault s cell ≡ Ok tt → fault_of (with_load s (cell - 1) v) ≡ Ok tt
unfolding set_load_of
edited-fine s cell v e =
    ap fault_of (sym (done-new (load_edit_fault s cell) (with_load s (cell - 1) v) s e)) ∙ set-load-fine s cell v (edit-fault s cell v refl ∙ e)

-- the numbers of a record whose edit is done, multiplied as the code does
pub edit-numbers : (s : Site) (cell : ℕ) → load_edit_fault s cell ≡ Ok tt
    → (fault_of s ≡ Ok tt) × (1 ≤ cell) × (cell ≤ s.cells) × (1 ≤ s.cells) × (s.cells ≤ 32) × (s.channels ≤ 16) × (s.slots * s.channels ≤ 2048)
    × (s.cells * (s.slots * s.channels) ≤ 65536)
edit-numbers s cell e =
    let d = load-edit-fine s cell e in
    let z = fine-sized s d.was-fine in
    (d.was-fine, d.named.from_one, d.named.to-cells, z.cells_some, z.cells_most, z.channels_most, few-positions z, few_bytes z)

pub ruleset of_change = (edit-fault, edit-site, edit-numbers, edited-fine, either_way, run-answer, run-table)
