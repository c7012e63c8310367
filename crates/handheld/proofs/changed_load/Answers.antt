-- `handheld::changed_load` meets its contract. The table is the plan of the record as it was, so the rows before the cell stand as planned for the edited
-- record too, and the plan from the cell on is its fresh plan. Assumes nothing.
use mathlib.Core.Path.{◌≡◌, sym, ap, ◌∙◌}
use mathlib.Core.Bool.{true}
use Prim.Native.Nat.{◌-◌, ◌≤◌}
use lib.ListN.{length}
use native.Mathlib.Omega.{arith}
use Rattle.std.specs.Prelude.{Ok}
use Rattle.theory.specs.Net.{Net}
use Rattle.theory.specs.Greedy.{greedy}
use Rattle.theory.specs.Plan.{is_plan}
use Rattle.site.specs.Record.{size}
use Rattle.site.specs.Edit.{load_edit_fault, with_load}
use Rattle.site.proofs.Faults.{Sized, LoadEdit, load-edit-fine, fine-sized, few-positions}
use Rattle.planner.specs.Plan.{answer_of, leaves}
use Rattle.planner.proofs.Answer.{run-answer, run-table}
use Rattle.planner.proofs.Before.{either_way}
use Rattle.handheld.specs.Change.{table_is_plan, change_of}
use Rattle.handheld.proofs.Ways.{edit-fault, edit-site, ends-done, same-net, new-net, stands, edited-fine}
use Rattle.handheld.proofs.changed_load.Goals as goal

pub is_plan-requires : goal.is_plan-requires
is_plan-requires c =
    let s = c.args.site in
    let a = c.args in
    let fine : load_edit_fault s a.cell ≡ Ok tt = sym (edit-fault s a.cell a.load c.set_load-edited.ensures) ∙ c.in_default.is in
    let edit : LoadEdit s a.cell = load-edit-fine s a.cell fine in
    let sized : Sized s = fine-sized s edit.was-fine in record {
      cells_nonzero = (sized.cells_some, sized.cells_most, sized.channels_most, few-positions sized, omega (arith, c.if-table-size.false));
      either_way = either_way s c.clash_rows-clash.result (c.clash_rows-clash.ensures.clash edit.was-fine);
    }

pub overflow_sub-cell : goal.overflow_sub-cell
overflow_sub-cell c =
    let s = c.args.site in
    let a = c.args in
    let fine : load_edit_fault s a.cell ≡ Ok tt = sym (edit-fault s a.cell a.load c.set_load-edited.ensures) ∙ c.in_default.is in
    let edit : LoadEdit s a.cell = load-edit-fine s a.cell fine in
    edit.named.from_one

pub plan_from-answer-requires : goal.plan_from-answer-requires
plan_from-answer-requires c =
    let s = c.args.site in
    let t = c.args.table.now in
    let a = c.args in
    let fine : load_edit_fault s a.cell ≡ Ok tt = sym (edit-fault s a.cell a.load c.set_load-edited.ensures) ∙ c.in_default.is in
    let edit : LoadEdit s a.cell = load-edit-fine s a.cell fine in
    let edited : c.set_load-edited.result.site ≡ with_load s (a.cell - 1) a.load = edit-site s a.cell a.load c.set_load-edited.ensures fine in
    let is = c.clash_rows-clash.ensures.clash edit.was-fine in
    let fits : size s ≤ length t = omega (arith, c.if-table-size.false) in
    let plan : table_is_plan s t ≡ true
    = sym (sym c.if-not-is_plan.false ∙ c.is_plan.ensures ∙ ap (λ (n : Net). is_plan n t) (same-net s c.clash_rows-clash.result is)) in
    let sized : Sized s = fine-sized s edit.was-fine in
    let low : a.cell - 1 ≤ s.cells = omega (arith, edit.named.to-cells) in record {
      first_le_cells = (low, sized.cells_most, sized.channels_most, few-positions sized, fits);
      planned_to = (
        stands s c.clash_rows-clash.result is (a.cell - 1) a.load edited t plan low,
        either_way s c.clash_rows-clash.result is,
      );
    }

pub returns : goal.returns
returns c =
    let s = c.args.site in
    let t = c.args.table.now in
    let a = c.args in
    let fine : load_edit_fault s a.cell ≡ Ok tt = sym (edit-fault s a.cell a.load c.set_load-edited.ensures) ∙ c.in_default.is in
    let edit : LoadEdit s a.cell = load-edit-fine s a.cell fine in
    let edited : c.set_load-edited.result.site ≡ with_load s (a.cell - 1) a.load = edit-site s a.cell a.load c.set_load-edited.ensures fine in
    let is = c.clash_rows-clash.ensures.clash edit.was-fine in
    let fits : size s ≤ length t = omega (arith, c.if-table-size.false) in
    let plan : table_is_plan s t ≡ true
    = sym (sym c.if-not-is_plan.false ∙ c.is_plan.ensures ∙ ap (λ (n : Net). is_plan n t) (same-net s c.clash_rows-clash.result is)) in
    let new = with_load s (a.cell - 1) a.load in
    let net = new-net s c.clash_rows-clash.result is (a.cell - 1) a.load edited in
    let good = edited-fine s a.cell a.load fine in
    ends-done s a.cell a.load t fine fits plan edited
    (c.as_change.ensures ∙ ap change_of (c.plan_from-answer.ensures.answer ∙ ap (λ (n : Net). answer_of (greedy n)) net ∙ sym (run-answer new t good fits)))
    (c.plan_from-answer.ensures.table ∙ ap (λ (n : Net). leaves n t) net ∙ sym (run-table new t good fits))
