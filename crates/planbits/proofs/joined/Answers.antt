-- `planbits::joined` meets its contract: the shifted word has its high number where it is due, and nothing else in its low byte. Assumes nothing.
use Prim.Native.Nat.{◌+◌, ◌-◌, ◌*◌}
use native.Mathlib.Omega.{arith}
use lib.Pow.{pow_mono, shr_le}
use Rattle.planbits.proofs.Block.{pair-joined}
use Rattle.planbits.proofs.joined.Goals as goal

pub overflow_add-result : goal.overflow_add-result
overflow_add-result c = let a = c.args in
    omega (arith, pow_mono {i = a.c} {j = 4} c.requires.0, shr_le (a.low + 256 * a.high) (8 - a.c))

pub returns : goal.returns
returns c = pair-joined c.args.c c.args.low c.args.high c.requires.0 c.requires.1 c.requires.2
