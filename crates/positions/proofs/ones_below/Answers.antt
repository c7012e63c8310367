-- `positions::ones_below` meets its contract: the digits of the remainder. Assumes nothing.
use mathlib.Core.Path.{◌≡◌, ap, ◌∙◌}
use Prim.Native.Nat.{ℕ, ◌*◌, ◌%◌, ◌^◌}
use native.Mathlib.Omega.{arith}
use native.Mathlib.Nat.{one-mul}
use lib.Count.{ones}
use lib.Dec.{lit<}
use lib.Pow.{shl_exact}
use Rattle.positions.proofs.Counts.{ones_low}
use Rattle.positions.proofs.ones_below.Goals as goal

pub returns : goal.returns
returns c =
    let shifted : 1 * 2 ^ c.args.m % 2 ^ 64 ≡ 2 ^ c.args.m = shl_exact 1 c.args.m 64 (lit< tt) (omega arith) ∙ one-mul _ in
    ap (λ (n : ℕ). ones (c.args.x % n)) shifted ∙ ones_low c.args.m c.args.x
