-- `rowapart::make_row` meets its contract: a mask without bytes leaves every position usable. Assumes nothing.
use mathlib.Core.Path.{sym, ap, ◌∙◌}
use mathlib.Core.Bool.{Bool}
use native.Mathlib.Omega.{arith}
use Prim.Native.Nat.{ℕ, ◌*◌, ◌<◌}
use lib.ListN.{length}
use Rattle.laws.specs.Bits.{bit_in}
use Rattle.theory.specs.Greedy.{fill}
use Rattle.rows.specs.Bars.{bar_row}
use Rattle.rows.specs.Stretch.{filled_by}
use Rattle.rows.proofs.Bars.{open-bars}
use Rattle.planrows.specs.Row.{marks_in, row_short}
use Rattle.planrows.proofs.Marked.{bare}
use Rattle.rowapart.proofs.make_row.Goals as goal

pub returns-then-mask-eq0 : goal.returns-then-mask-eq0
returns-then-mask-eq0 c = let a = c.args in
    let marks = marks_in (a.slots * a.channels) (bit_in a.clash.now) a.table.now a.i in
    let none = bare a.mask.now (omega (arith, c.if-mask-eq0.true)) in record {
      row = c.make_open_row.ensures.row ∙ ap (λ (u : ℕ → Bool). fill u 0 a.load marks) none;
      short = c.make_open_row.ensures.short ∙ ap (λ (u : ℕ → Bool). row_short (a.slots * a.channels) (bit_in a.clash.now) u a.i a.load a.table.now) none;
      stretch = c.make_open_row.ensures.stretch;
      answer = c.make_open_row.ensures.answer
          ∙ ap (filled_by a.slots a.channels a.load) (sym (open-bars 0 marks) ∙ ap (λ (u : ℕ → Bool). bar_row u 0 marks) none);
    }

pub make_barred_row-requires : goal.make_barred_row-requires
make_barred_row-requires c = let some : 0 < length c.args.mask.now = omega
    (arith, c.if-mask-eq0.false) in record { i_bound = c.requires.i_bound; rows_before = c.requires.rows_before; mask_nonzero = (some, c.requires.masks) }
