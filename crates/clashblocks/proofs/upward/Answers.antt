-- `clashblocks::upward` meets its contract: the numbers below i are taken out. Assumes nothing.
use mathlib.Core.Path.{◌∙◌}
use native.Mathlib.Omega.{arith}
use lib.Pow.{pow_pos}
use Rattle.laws.proofs.Bits.{one_shl}
use Rattle.clashblocks.proofs.Above.{upward-is}
use Rattle.clashblocks.proofs.upward.Goals as goal

pub overflow_sub-i : goal.overflow_sub-i
overflow_sub-i c = omega (arith, one_shl c.args.i (omega arith), pow_pos c.args.i)

pub returns : goal.returns
returns c = c.apart.ensures.0 ∙ upward-is c.args.row c.args.i (omega arith)
