-- `positions::open_count` meets its contract: each position is in the set or open. Assumes nothing.
use native.Mathlib.Omega.{arith}
use Rattle.positions.proofs.Counts.{count-open}
use Rattle.positions.proofs.open_count.Goals as goal

pub overflow_sub-result : goal.overflow_sub-result
overflow_sub-result c = omega (arith, c.blocked_count.ensures, count-open c.args.set.now c.args.n)

pub returns : goal.returns
returns c = omega (arith, c.blocked_count.ensures, count-open c.args.set.now c.args.n)
