-- `setwords::low_word` meets its contract: a case for each way out. Assumes nothing.
use mathlib.Core.Path.{◌≡◌, ap, ◌∙◌}
use Prim.Native.Nat.{ℕ, ◌-◌, ◌*◌, ◌%◌, ◌^◌}
use native.Mathlib.Omega.{arith}
use native.Mathlib.Nat.{one-mul}
use lib.Dec.{lit<}
use lib.Pow.{shl_exact, pow_pos}
use Rattle.setwords.proofs.Words.{low-some, low-all}
use Rattle.setwords.proofs.low_word.Goals as goal

pub overflow_sub-result : goal.overflow_sub-result
overflow_sub-result c =
    let shifted : 1 * 2 ^ c.args.m % 2 ^ 64 ≡ 2 ^ c.args.m = shl_exact 1 c.args.m 64 (lit< tt) (omega arith) ∙ one-mul _ in
    omega (arith, shifted, pow_pos c.args.m)

pub returns-then-m-lt64 : goal.returns-then-m-lt64
returns-then-m-lt64 c =
    let shifted : 1 * 2 ^ c.args.m % 2 ^ 64 ≡ 2 ^ c.args.m = shl_exact 1 c.args.m 64 (lit< tt) (omega arith) ∙ one-mul _ in
    ap (λ (n : ℕ). n - 1) shifted ∙ low-some c.args.m (omega arith)

pub returns : goal.returns
returns c = low-all c.args.m (omega arith)
