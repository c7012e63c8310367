-- `clashcount::lower` meets its contract: the digits of the remainder. Assumes nothing.
use mathlib.Core.Path.{◌≡◌, ap, ◌∙◌}
use Prim.Native.Nat.{ℕ, ◌*◌, ◌%◌, ◌^◌, ◌≤◌}
use native.Mathlib.Omega.{arith}
use lib.Count.{ones}
use Rattle.laws.specs.Bits.{bit_at}
use Rattle.laws.specs.Sum.{count}
use Rattle.laws.proofs.Bits.{one_shl}
use Rattle.laws.proofs.Sums.{count_most}
use Rattle.positions.proofs.Counts.{ones_low}
use Rattle.clashcount.proofs.lower.Goals as goal

pub returns : goal.returns
returns c =
    let shifted : 1 * 2 ^ c.args.c % 4294967296 ≡ 2 ^ c.args.c = one_shl c.args.c (omega arith) in
    let digits : ones (c.args.row % (1 * 2 ^ c.args.c % 4294967296)) ≡ count (bit_at c.args.row) c.args.c = ap (λ (n : ℕ). ones (c.args.row % n)) shifted
    ∙ ones_low c.args.c c.args.row in
    let few : count (bit_at c.args.row) c.args.c ≤ 32 = omega (arith, count_most (bit_at c.args.row) c.args.c) in
    (digits, omega (arith, digits, few))
