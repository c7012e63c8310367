-- `clashcount::counted` meets its contract: before row c, the rows below it are counted. Assumes nothing.
use mathlib.Core.Path.{refl, sym, ap₂, ◌∙◌}
use Prim.Native.Nat.{◌+◌}
use native.Mathlib.Omega.{arith}
use Rattle.laws.specs.Sum.{sum}
use Rattle.laws.proofs.Sums.{sum_more}
use Rattle.clashcount.proofs.counted.Invariants.{below}
use Rattle.clashcount.proofs.counted.Goals as goal

pub loop-c-init : goal.loop-c-init
unfolding sum
loop-c-init c = (omega arith, refl, omega arith)

pub loop-c-preserved : goal.loop-c-preserved
loop-c-preserved c = let rows = c.args.rows.now in (
  omega arith,
  ap₂ ◌+◌ c.loop-c.invariant.1 c.lower-all.ensures.0 ∙ sym (sum_more (below rows) c.loop-c.c),
  omega (arith, c.lower-all.ensures.1, c.loop-c.invariant.2),
)
