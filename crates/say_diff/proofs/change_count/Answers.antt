-- `say_diff::change_count` meets its contract: before cell i, the changes of the cells below it are counted. Assumes nothing.
use mathlib.Core.Path.{refl}
use native.Mathlib.Omega.{arith}
use Rattle.laws.specs.Sum.{sum, count}
use Rattle.laws.proofs.Grid.{row_before}
use Rattle.laws.proofs.Sums.{sum_more, count_most}
use Rattle.theory.specs.Greedy.{reserved}
use Rattle.mending.specs.Changes.{changed}
use Rattle.mending.proofs.Changes.{few-changes}
use Rattle.say_diff.proofs.change_count.Goals as goal

pub loop-i-init : goal.loop-i-init
unfolding sum
loop-i-init c = refl

pub overflow_add-all : goal.overflow_add-all
overflow_add-all c = let n = c.args.n in
    let is = reserved n c.args.new.now in
    let was = reserved n c.args.old.now in
    omega (
      arith,
      c.loop-i.invariant,
      few-changes is was n c.loop-i.i,
      c.requires.2,
      row_before n c.loop-i-test.true,
      c.cell_changes-all.ensures,
      count_most (changed is was c.loop-i.i) n,
      c.requires.0,
    )

pub loop-i-preserved : goal.loop-i-preserved
loop-i-preserved c = let n = c.args.n in
    let more = sum_more (λ j. count (changed (reserved n c.args.new.now) (reserved n c.args.old.now) j) n) c.loop-i.i in
    omega (arith, c.loop-i.invariant, more, c.cell_changes-all.ensures)
