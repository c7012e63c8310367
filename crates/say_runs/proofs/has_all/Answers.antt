-- `say_runs::has_all` meets its contract: the shift is a power of two. Assumes nothing.
use native.Mathlib.Omega.{arith}
use lib.Pow.{pow_pos}
use Rattle.laws.proofs.Bits.{one_shl}
use Rattle.say_runs.proofs.has_all.Goals as goal

pub overflow_sub-result : goal.overflow_sub-result
overflow_sub-result c = omega (arith, one_shl c.args.channels (omega arith), pow_pos c.args.channels)

pub returns : goal.returns
returns c = rw (one_shl c.args.channels (omega arith))
