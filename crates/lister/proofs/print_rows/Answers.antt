-- `lister::print_rows` is safe and ends: each row stands within the table. Assumes nothing.
use Prim.Native.Nat.{suc, ◌≤◌}
use mathlib.Core.Path.{refl, ◌∙◌}
use native.Mathlib.Nat.{mul-le-mul_right, suc-mul}
use native.Mathlib.Omega.{arith}
use Rattle.lister.proofs.print_rows.Goals as goal

pub loop-i-init : goal.loop-i-init
loop-i-init c = (omega arith, refl)

pub row_line-end-requires : goal.row_line-end-requires
row_line-end-requires c = let l = c.loop-i in
    let a = c.args in
    let below : suc l.i ≤ a.rows = omega arith in
    let rows = mul-le-mul_right a.width below in
    let row = suc-mul l.i a.width in
    let q = c.requires.rows_bound in record {
      channels_nonzero = (q.3 (omega arith), q.1);
      i_bound = (omega (arith, q.0), omega (arith, rows, row, q.2));
      in_bounds = omega (arith, c.requires.in_bounds, l.invariant.1);
    }

pub shape_of-out-then-not-result : goal.shape_of-out-then-not-result
shape_of-out-then-not-result c = c.row_line-end.auto.out ∙ c.loop-i.invariant.1

pub loop-i-preserved : goal.loop-i-preserved
loop-i-preserved c = (omega arith, c.row_line-end.auto.out ∙ c.loop-i.invariant.1)

pub shape_of-out : goal.shape_of-out
shape_of-out c = c.loop-i.invariant.1
