-- `words::lowest` meets its contract: the bit set at the end stops the count of zeros there, by `lowest-bit`. Assumes nothing.
use mathlib.Core.Path.{◌≡◌, ap, ◌∙◌}
use Prim.Native.Nat.{ℕ, ◌+◌, ◌*◌, ◌/◌, ◌%◌, ◌^◌}
use native.Mathlib.Omega.{arith}
use native.Mathlib.Nat.{one-mul}
use lib.Bits.{bit_or}
use lib.Count.{count_trailing_zeros}
use lib.Dec.{lit<}
use lib.Pow.{shl_exact}
use Rattle.laws.specs.Bits.{set_bit}
use Rattle.laws.proofs.Lowest.{lowest-bit}
use Rattle.words.proofs.lowest.Goals as goal

pub returns : goal.returns
unfolding set_bit
returns c =
    let shifted : 1 * 2 ^ c.args.end % 2 ^ 64 ≡ 2 ^ c.args.end = shl_exact 1 c.args.end 64 (lit< tt) (omega arith) ∙ one-mul _ in
    let a = c.args in
    ap (λ (n : ℕ). a.from + count_trailing_zeros 64 (bit_or a.word n / 2 ^ a.from)) shifted
    ∙ lowest-bit a.word 64 a.from a.end c.requires.0 (omega arith)
