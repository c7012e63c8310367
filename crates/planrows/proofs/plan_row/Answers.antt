-- `planrows::plan_row` meets its contract: a mask without bytes leaves every position usable. Assumes nothing.
use mathlib.Core.Path.{sym, ap, ◌∙◌}
use mathlib.Core.Bool.{Bool}
use native.Mathlib.Omega.{arith}
use Prim.Native.Nat.{ℕ, ◌*◌, ◌<◌}
use lib.ListN.{length}
use Rattle.laws.specs.Bits.{bit_in}
use Rattle.planrows.specs.Row.{marks_in, row_planned, row_short}
use Rattle.rows.specs.Bars.{bar_row}
use Rattle.rows.specs.Stretch.{filled_by}
use Rattle.rows.proofs.Bars.{open-bars}
use Rattle.planrows.proofs.Marked.{bare}
use Rattle.planrows.proofs.plan_row.Goals as goal

pub returns-then-mask-eq0 : goal.returns-then-mask-eq0
returns-then-mask-eq0 c = let n = c.args.slots * c.args.channels in
    let clash = bit_in c.args.clash.now in
    let t = c.args.table.now in
    let none = bare c.args.mask.now (omega (arith, c.if-mask-eq0.true)) in record {
      row = c.plan_open_row.ensures.row ∙ ap (λ (u : ℕ → Bool). row_planned n clash u c.args.i c.args.load t) none;
      short = c.plan_open_row.ensures.short ∙ ap (λ (u : ℕ → Bool). row_short n clash u c.args.i c.args.load t) none;
      stretch = c.plan_open_row.ensures.stretch;
      answer = c.plan_open_row.ensures.answer
          ∙ ap (filled_by c.args.slots c.args.channels c.args.load)
          (sym (open-bars 0 (marks_in n clash t c.args.i)) ∙ ap (λ (u : ℕ → Bool). bar_row u 0 (marks_in n clash t c.args.i)) none);
    }

pub plan_barred_row-requires : goal.plan_barred_row-requires
plan_barred_row-requires c = let some : 0 < length c.args.mask.now = omega
    (arith, c.if-mask-eq0.false) in record { i_bound = c.requires.i_bound; rows_before = c.requires.rows_before; mask_nonzero = (some, c.requires.masks) }

pub returns : goal.returns
returns c = record {
  row = c.plan_barred_row.ensures.row;
  short = c.plan_barred_row.ensures.short;
  stretch = c.plan_barred_row.ensures.stretch;
  answer = c.plan_barred_row.ensures.answer;
}
