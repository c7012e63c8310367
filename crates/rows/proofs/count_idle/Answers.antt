-- `rows::count_idle` meets its contract: before position p, those below p are counted. Assumes nothing.
use mathlib.Core.Path.{◌≡◌, refl, sym, ap₂, ◌∙◌}
use Prim.Native.Nat.{◌+◌}
use native.Mathlib.Omega.{arith}
use lib.ListN.{length}
use Rattle.laws.specs.Sum.{bit, sum}
use Rattle.laws.proofs.Sums.{sum_more, count_most}
use Rattle.rows.proofs.count_idle.Invariants.{open_at}
use Rattle.rows.proofs.count_idle.Goals as goal

pub loop-p-init : goal.loop-p-init
unfolding sum
loop-p-init c = (omega arith, refl)

pub overflow_add-count : goal.overflow_add-count
overflow_add-count c = let p = c.loop-p in
    let x = c.args.stretch.now in
    omega (arith, c.idle-count.ensures, sum_more (λ k. bit (open_at x k)) p.p, count_most (open_at x) (p.p + 1))

pub loop-p-preserved : goal.loop-p-preserved
loop-p-preserved c = let p = c.loop-p in
    let x = c.args.stretch.now in
    (omega arith, ap₂ ◌+◌ p.invariant.1 c.idle-count.ensures ∙ sym (sum_more (λ k. bit (open_at x k)) p.p))

pub overflow_cast-result : goal.overflow_cast-result
overflow_cast-result c = let x = c.args.stretch.now in
    omega (arith, count_most (open_at x) c.loop-p.p)

pub returns : goal.returns
returns c = let x = c.args.stretch.now in
    let e : c.loop-p.p ≡ length x = omega arith in
    rw e at c.loop-p.invariant.1
