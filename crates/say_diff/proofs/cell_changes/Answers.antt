-- `say_diff::cell_changes` meets its contract: before position k, the changes below it are counted. Assumes nothing.
use mathlib.Core.Path.{refl}
use native.Mathlib.Omega.{arith}
use Rattle.laws.specs.Sum.{bit, sum}
use Rattle.laws.proofs.Sums.{sum_more, count_most, bit-most}
use Rattle.theory.specs.Greedy.{reserved}
use Rattle.mending.specs.Changes.{differ, changed}
use Rattle.say_diff.proofs.cell_changes.Goals as goal

pub loop-k-init : goal.loop-k-init
unfolding sum
loop-k-init c = refl

pub overflow_add-all : goal.overflow_add-all
overflow_add-all c = let n = c.args.n in
    omega (
      arith,
      c.loop-k.invariant,
      count_most (changed (reserved n c.args.new.now) (reserved n c.args.old.now) c.args.i) c.loop-k.k,
      c.one_change-all.ensures,
      bit-most (differ c.sends_at.result c.sends_at-in-loop-k.result),
      c.requires.0,
    )

pub loop-k-preserved : goal.loop-k-preserved
loop-k-preserved c = let n = c.args.n in
    let e = rw (c.sends_at.ensures, c.sends_at-in-loop-k.ensures) at c.one_change-all.ensures in
    let more = sum_more (λ k. bit (changed (reserved n c.args.new.now) (reserved n c.args.old.now) c.args.i k)) c.loop-k.k in
    omega (arith, c.loop-k.invariant, more, e)
