-- `reachrows::lowest` meets its contract: the low digits are what is left when the power of two is divided out. Assumes nothing.
use mathlib.Core.Path.{◌≡◌, ◌∙◌}
use Prim.Native.Nat.{ℕ, ◌*◌, ◌%◌, ◌^◌, ◌<◌}
use native.Mathlib.Nat.{one-mul}
use native.Mathlib.Omega.{arith}
use lib.Dec.{lit<}
use lib.Pow.{shl_exact}
use Rattle.laws.proofs.Words.{word_mod}
use Rattle.reachrows.proofs.lowest.Goals as goal

-- what the code's `1u64 << n` is
power : (n : ℕ) → n < 64 → 1 * 2 ^ n % 18446744073709551616 ≡ 2 ^ n
power n h = shl_exact 1 n 64 (lit< tt) (omega arith) ∙ one-mul _

pub returns : goal.returns
returns c = rw (power c.args.n (omega arith)) (word_mod c.args.x c.args.n)
