-- `say_runs::has_one` meets its contract: the shift is a power of two. Assumes nothing.
use Prim.Native.Nat.{◌≤◌, zero-le}
use native.Mathlib.Omega.{arith}
use Rattle.laws.specs.Bits.{bit_at}
use Rattle.laws.proofs.Bits.{one_shl}
use Rattle.laws.proofs.Search.{first-most}
use Rattle.say_runs.proofs.has_one.Goals as goal

pub overflow_cast-result : goal.overflow_cast-result
overflow_cast-result c =
    let few : c.lowest-f.result ≤ 16 = omega (arith, c.lowest-f.ensures, first-most (bit_at c.args.word) 0 16 zero-le) in
    omega (arith, few)

pub overflow_shl-result : goal.overflow_shl-result
overflow_shl-result c =
    let few : c.lowest-f.result ≤ 16 = omega (arith, c.lowest-f.ensures, first-most (bit_at c.args.word) 0 16 zero-le) in
    omega (arith, few)

pub returns : goal.returns
returns c =
    let few : c.lowest-f.result ≤ 16 = omega (arith, c.lowest-f.ensures, first-most (bit_at c.args.word) 0 16 zero-le) in
    rw (one_shl c.lowest-f.result (omega (arith, few)), c.lowest-f.ensures)
