-- `planbits::low_bits` meets its contract: the shift gives the power. Assumes nothing.
use mathlib.Core.Path.{◌≡◌, ap, ◌∙◌}
use Prim.Native.Nat.{ℕ, ◌*◌, ◌%◌, ◌^◌}
use native.Mathlib.Omega.{arith}
use native.Mathlib.Nat.{one-mul}
use lib.Dec.{lit<}
use lib.Pow.{shl_exact, pow_pos}
use Rattle.planbits.proofs.low_bits.Goals as goal

pub nonzero_rem-result : goal.nonzero_rem-result
nonzero_rem-result c =
    let shifted : 1 * 2 ^ c.args.c % 2 ^ 8 ≡ 2 ^ c.args.c = shl_exact 1 c.args.c 8 (lit< tt) (omega arith) ∙ one-mul _ in
    omega (arith, shifted, pow_pos c.args.c)

pub returns : goal.returns
returns c =
    let shifted : 1 * 2 ^ c.args.c % 2 ^ 8 ≡ 2 ^ c.args.c = shl_exact 1 c.args.c 8 (lit< tt) (omega arith) ∙ one-mul _ in
    ap (λ (n : ℕ). c.args.x % n) shifted
