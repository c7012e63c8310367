-- `say_faults::piece_count` meets its contract: before cell i, those of the cells below it are counted. Assumes nothing.
use mathlib.Core.Path.{refl}
use native.Mathlib.Omega.{arith}
use Rattle.laws.specs.Sum.{bit, sum}
use Rattle.laws.proofs.Sums.{sum_more, count_most, bit-most}
use Rattle.say_faults.specs.Said.{shown_in}
use Rattle.say_faults.proofs.Ready.{ready-sizes}
use Rattle.say_faults.proofs.piece_count.Goals as goal

pub loop-i-init : goal.loop-i-init
unfolding sum
loop-i-init c = refl

pub overflow_add-all : goal.overflow_add-all
overflow_add-all c = let p = shown_in c.args.site c.args.table.now c.args.piece in
    let most = (ready-sizes c.args.site c.args.table.now c.requires.0).cells_most in
    omega (arith, c.loop-i.invariant, count_most p c.loop-i.i, c.one_shown-all.ensures, bit-most (p c.loop-i.i))

pub loop-i-preserved : goal.loop-i-preserved
loop-i-preserved c = let p = shown_in c.args.site c.args.table.now c.args.piece in
    omega (arith, c.loop-i.invariant, sum_more (λ k. bit (p k)) c.loop-i.i, c.one_shown-all.ensures)
