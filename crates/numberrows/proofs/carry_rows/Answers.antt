-- `numberrows::carry_rows` meets its contract: the rows below i are carried. Assumes nothing.
use mathlib.Core.Path.{◌≡◌, refl, ap, ◌∙◌}
use Prim.Native.Nat.{◌+◌, ◌<◌}
use native.Mathlib.Omega.{arith}
use lib.ListN.{length, get_or}
use Rattle.laws.proofs.Grid.{row_before}
use Rattle.renumbering.specs.Numbering.{index_at}
use Rattle.renumbering.specs.Carry.{carried}
use Rattle.renumbering.proofs.Carry.{carried-long}
use Rattle.numberrows.proofs.Rows.{carried-more}
use Rattle.numberrows.proofs.carry_rows.Goals as goal

pub loop-i-init : goal.loop-i-init
unfolding carried
loop-i-init c = (omega arith, refl, refl)

pub cell_at-requires : goal.cell_at-requires
cell_at-requires c =
    let is_named : (0 < get_or c.args.new.now c.loop-i.i 0) ×
    (index_at c.args.new.now c.loop-i.i < c.args.cells) = c.requires.3 c.loop-i.i c.loop-i-test.true in
    (omega arith, is_named.0, omega (arith, is_named.1))

pub copy_row-requires : goal.copy_row-requires
copy_row-requires c =
    let is_named : (0 < get_or c.args.new.now c.loop-i.i 0) ×
    (index_at c.args.new.now c.loop-i.i < c.args.cells) = c.requires.3 c.loop-i.i c.loop-i-test.true in
    let width = c.args.width in
    let inside : c.cell_at.result < c.args.cells = omega (arith, is_named.1, c.cell_at.ensures.0) in
    let one = row_before width inside in
    let other = row_before width c.loop-i-test.true in
    (omega (arith, one, other), omega (arith, one, other))

pub overflow_step-i : goal.overflow_step-i
overflow_step-i c = omega arith

pub loop-i-smaller : goal.loop-i-smaller
loop-i-smaller c = omega arith

pub loop-i-preserved : goal.loop-i-preserved
loop-i-preserved c = let args = c.args in
    let more = carried-more (index_at args.new.now) args.width args.from.now args.to.now c.loop-i.i c.cell_at.result
    c.loop-i.to c.copy_row.new.to c.cell_at.ensures.0 c.loop-i.invariant.2
    c.copy_row.ensures in (
      omega arith,
      ap length more
          ∙ carried-long (index_at args.new.now) args.cells args.width args.from.now args.to.now c.requires.1 c.requires.2
          (λ j l. (c.requires.3 j l).1) (c.loop-i.i + 1) (omega arith),
      more,
    )

pub shape_of-to : goal.shape_of-to
shape_of-to c = c.loop-i.invariant.1

pub returns : goal.returns
returns c = let e : c.loop-i.i ≡ c.args.cells = omega arith in
    rw e at c.loop-i.invariant.2
