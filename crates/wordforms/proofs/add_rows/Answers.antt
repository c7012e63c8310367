-- `wordforms::add_rows` meets its contract: before cell i, the words have the rows of the cells below i. Assumes nothing.
use mathlib.Core.Path.{◌≡◌, refl, ◌∙◌}
use native.Mathlib.Omega.{arith}
use Rattle.laws.proofs.Bits.{one_shl}
use Rattle.laws.proofs.Grid.{row_before}
use Rattle.laws.proofs.Stores.{sets-long}
use Rattle.wordforms.proofs.Rows.{none-gathered, one-gathered}
use Rattle.wordforms.proofs.add_rows.Goals as goal

pub loop-i-init : goal.loop-i-init
loop-i-init c = (omega arith, refl, none-gathered c.args.n c.args.table.now c.args.words.now c.requires.1 c.requires.3)

pub overflow_mul-i : goal.overflow_mul-i
overflow_mul-i c = omega (arith, row_before c.args.n c.loop-i-test.true, c.requires.2)

pub add_row-requires : goal.add_row-requires
add_row-requires c = (
  omega (arith, c.loop-i.invariant.1, c.requires.1),
  omega (arith, row_before c.args.n c.loop-i-test.true, c.requires.2),
)

pub loop-i-preserved : goal.loop-i-preserved
loop-i-preserved c = let l = c.loop-i in (
  omega arith,
  sets-long _ c.args.n l.words c.add_row.new.words c.add_row.ensures ∙ l.invariant.1,
  one-gathered c.args.n c.args.table.now c.args.words.now l.i _ l.words c.add_row.new.words c.requires.1
      (one_shl l.i (omega (arith, c.loop-i-test.true, c.requires.0))) l.invariant.2 c.add_row.ensures,
)

pub returns : goal.returns
returns c = let l = c.loop-i in
    let all : l.i ≡ c.args.cells = omega (arith, c.loop-i-test.false, l.invariant.0) in
    rw all at l.invariant.2
