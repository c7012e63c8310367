-- `standing::pack_rows` meets its contract: before cell i, the rows of the cells below it are packed. Assumes nothing.
use mathlib.Core.Path.{◌≡◌, refl, ap, ◌∙◌}
use Prim.Native.Nat.{◌+◌, ◌*◌, ◌≤◌}
use native.Mathlib.Nat.{mul-le-mul_right}
use native.Mathlib.Omega.{arith}
use lib.ListN.{length}
use lib.Seq.{length-sets}
use Rattle.laws.proofs.Grid.{row_before}
use Rattle.laws.proofs.Part.{lent, length_part}
use Rattle.sets.specs.Sets.{set_in}
use Rattle.sets.specs.Pack.{in_cell}
use Rattle.standing.proofs.Turns.{none-packed, more-packed, back-set}
use Rattle.standing.proofs.pack_rows.Goals as goal

pub loop-i-init : goal.loop-i-init
loop-i-init c = let a = c.args in (omega arith, refl, none-packed a.w a.n a.table.now a.old.now)

pub overflow_mul-from : goal.overflow_mul-from
overflow_mul-from c =
    let fits : let l = c.loop-i in let a = c.args in l.i * a.w + a.w ≤ length l.old = let l = c.loop-i in
    omega (arith, row_before c.args.w c.loop-i-test.true, l.invariant.1, c.requires.4) in
    omega (arith, fits)

pub overflow_add-to : goal.overflow_add-to
overflow_add-to c =
    let fits : let l = c.loop-i in let a = c.args in l.i * a.w + a.w ≤ length l.old = let l = c.loop-i in
    omega (arith, row_before c.args.w c.loop-i-test.true, l.invariant.1, c.requires.4) in
    omega (arith, fits)

pub offset_bounds-old-from : goal.offset_bounds-old-from
offset_bounds-old-from c = omega (arith, row_before c.args.w c.loop-i-test.true, mul-le-mul_right c.args.w c.requires.0, c.requires.1)

pub slice_bounds-pack_cell-start : goal.slice_bounds-pack_cell-start
slice_bounds-pack_cell-start c =
    let fits : let l = c.loop-i in let a = c.args in l.i * a.w + a.w ≤ length l.old = let l = c.loop-i in
    omega (arith, row_before c.args.w c.loop-i-test.true, l.invariant.1, c.requires.4) in
    omega (arith, fits)

pub slice_bounds-pack_cell-end : goal.slice_bounds-pack_cell-end
slice_bounds-pack_cell-end c =
    let fits : let l = c.loop-i in let a = c.args in l.i * a.w + a.w ≤ length l.old = let l = c.loop-i in
    omega (arith, row_before c.args.w c.loop-i-test.true, l.invariant.1, c.requires.4) in
    omega (arith, fits)

pub pack_cell-requires : goal.pack_cell-requires
pack_cell-requires c =
    let fits : let l = c.loop-i in let a = c.args in l.i * a.w + a.w ≤ length l.old = let l = c.loop-i in
    omega (arith, row_before c.args.w c.loop-i-test.true, l.invariant.1, c.requires.4) in
    let l = c.loop-i in
    let a = c.args in
    let at = l.i * a.w in (
      c.requires.1,
      c.requires.2,
      omega (arith, row_before a.n c.loop-i-test.true, c.requires.3),
      omega (arith, ap length (lent at a.w l.old), length_part at a.w l.old fits),
    )

pub loop-i-preserved : goal.loop-i-preserved
loop-i-preserved c =
    let fits : let l = c.loop-i in let a = c.args in l.i * a.w + a.w ≤ length l.old = let l = c.loop-i in
    omega (arith, row_before c.args.w c.loop-i-test.true, l.invariant.1, c.requires.4) in
    let l = c.loop-i in
    let a = c.args in
    let is = in_cell a.n a.table.now l.i in
    let new = back-set is l.old a.w (l.i * a.w) c.pack_cell.new.set fits c.pack_cell.ensures in (
      omega (arith, c.loop-i-test.true),
      ap length new ∙ length-sets l.old (l.i * a.w) (set_in is a.w) ∙ l.invariant.1,
      more-packed a.w a.n a.table.now a.old.now l.i l.old _ l.invariant.2 new,
    )

pub returns : goal.returns
returns c = let l = c.loop-i in
    let e : l.i ≡ c.args.cells = omega arith in
    rw e at l.invariant.2
