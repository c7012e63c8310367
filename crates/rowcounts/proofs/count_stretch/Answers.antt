-- `rowcounts::count_stretch` meets its contract: before position p, those below p are counted. Assumes nothing.
use mathlib.Core.Path.{◌≡◌, refl, sym, ap₂, ◌∙◌}
use Prim.Native.Nat.{◌+◌}
use native.Mathlib.Omega.{arith}
use lib.ListN.{length, get_or}
use Rattle.laws.specs.Sum.{bit, sum}
use Rattle.laws.proofs.Sums.{sum_more, count_most}
use Rattle.theory.specs.Greedy.{sends}
use Rattle.rowcounts.proofs.count_stretch.Goals as goal

pub loop-p-init : goal.loop-p-init
unfolding sum
loop-p-init c = (refl, omega arith)

pub overflow_add-count : goal.overflow_add-count
overflow_add-count c = let p = c.loop-p in
    let stretch = c.args.stretch.now in
    omega (arith, c.one-count.ensures, sum_more (λ k. bit (sends (get_or stretch k 0))) p.p, count_most (λ k. sends (get_or stretch k 0)) (p.p + 1))

pub loop-p-preserved : goal.loop-p-preserved
loop-p-preserved c = let p = c.loop-p in
    let stretch = c.args.stretch.now in
    (ap₂ ◌+◌ p.invariant.0 c.one-count.ensures ∙ sym (sum_more (λ k. bit (sends (get_or stretch k 0))) p.p), omega arith)

pub overflow_cast-result : goal.overflow_cast-result
overflow_cast-result c = let stretch = c.args.stretch.now in
    omega (arith, count_most (λ k. sends (get_or stretch k 0)) c.loop-p.p)

pub returns : goal.returns
returns c = let stretch = c.args.stretch.now in
    let e : c.loop-p.p ≡ length stretch = omega arith in
    rw e at c.loop-p.invariant.0
