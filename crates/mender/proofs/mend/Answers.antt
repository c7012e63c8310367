-- `mender::mend` meets its contract: either way the room is enough. Assumes nothing.
use Prim.Native.Nat.{◌≤◌}
use native.Mathlib.Nat.{mul-le-mul_right}
use native.Mathlib.Omega.{arith}
use Rattle.mender.proofs.Lent.{large-sets}
use Rattle.mender.proofs.mend.Goals as goal

pub overflow_mul-n : goal.overflow_mul-n
overflow_mul-n c = let s = c.args.site in
    let h : s.slots ≤ 65535 = omega arith in
    omega (arith, mul-le-mul_right s.channels h)

pub mend_in-requires : goal.mend_in-requires
mend_in-requires c = let s = c.args.site in
    (large-sets s _ (omega arith), large-sets s _ (omega arith))
