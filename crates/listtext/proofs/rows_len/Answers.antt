-- `listtext::rows_len` meets its contract: before cell line i, the lines below it are counted. Assumes nothing.
use Prim.Native.Nat.{ℕ, suc, ◌+◌, ◌≤◌}
use mathlib.Core.Path.{◌≡◌, refl, ap, ◌∙◌}
use native.Mathlib.Nat.{mul-le-mul_right, suc-mul}
use native.Mathlib.Omega.{arith}
use lib.ListN.{length, length-append}
use Rattle.theory.specs.Greedy.{row_at}
use Rattle.say_listing.specs.Lines.{cell_listed}
use Rattle.listhead.specs.Listing.{cell_lines}
use Rattle.calltext.proofs.Kept.{put-end}
use Rattle.listtext.proofs.Rows.{line-more}
use Rattle.listtext.proofs.rows_len.Goals as goal

pub loop-i-init : goal.loop-i-init
unfolding cell_lines
loop-i-init c = (refl, omega arith)

pub row_line-n-requires : goal.row_line-n-requires
row_line-n-requires c = let l = c.loop-i in
    let a = c.args in
    let below : suc l.i ≤ a.rows = omega arith in
    let rows = mul-le-mul_right a.width below in
    let row = suc-mul l.i a.width in
    let q = c.requires.rows_bound in record {
      channels_nonzero = (q.3 (omega arith), q.1);
      i_bound = (omega (arith, q.0), omega (arith, rows, row, q.2));
      in_bounds = omega (arith, c.requires.in_bounds, l.invariant.1);
    }

pub overflow_add-n : goal.overflow_add-n
overflow_add-n c = let r = c.row_line-n.ensures in
    omega (arith, c.loop-i.invariant.1, put-end r, r.short, c.requires.rows_bound.0, c.loop-i-test.true)

pub loop-i-preserved : goal.loop-i-preserved
loop-i-preserved c = let a = c.args in
    let i = c.loop-i.i in
    let e = put-end c.row_line-n.ensures in
    let lines = cell_lines a.channels a.width a.table.now 0 i in
    let line = cell_listed (i + 1) a.channels (row_at a.width a.table.now i) in
    let more = ap length (line-more a.channels a.width a.table.now i) in (
      omega (arith, e, more, c.loop-i.invariant.0, length-append lines line),
      omega (arith, e, c.row_line-n.ensures.short, c.loop-i.invariant.1),
    )

pub returns : goal.returns
returns c = let a = c.args in
    let e : c.loop-i.i ≡ a.rows = omega arith in
    (c.loop-i.invariant.0 ∙ ap (λ (k : ℕ). length (cell_lines a.channels a.width a.table.now 0 k)) e, omega (arith, c.loop-i.invariant.1))
