-- `planrows::near_of` meets its contract: the low digits of a number are the word of its bits. Assumes nothing.
use mathlib.Core.Path.{ap, ◌∙◌}
use Prim.Native.Nat.{ℕ, ◌%◌}
use native.Mathlib.Omega.{arith}
use lib.ListN.{get_or}
use lib.Pow.{pow_pos}
use Rattle.laws.proofs.Bits.{one_shl}
use Rattle.laws.proofs.Words.{word_mod}
use Rattle.planrows.proofs.near_of.Goals as goal

pub nonzero_rem-result : goal.nonzero_rem-result
nonzero_rem-result c = let i = c.args.i in
    omega (arith, one_shl i c.requires, pow_pos i)

pub returns : goal.returns
returns c = let i = c.args.i in
    let x = get_or c.args.clash.now i 0 in
    ap (λ (m : ℕ). x % m) (one_shl i c.requires) ∙ word_mod x i
