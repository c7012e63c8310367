-- `planrows::group_of` meets its contract: a bit is set. Assumes nothing.
use mathlib.Core.Path.{ap₂}
use Prim.Native.Nat.{ℕ}
use lib.Bits.{bit_or}
use Rattle.laws.specs.Bits.{set_bit}
use Rattle.laws.proofs.Bits.{one_shl}
use Rattle.planrows.proofs.group_of.Goals as goal

pub returns : goal.returns
unfolding set_bit
returns c = ap₂ (λ (x y : ℕ). bit_or x y) c.near_of.ensures (one_shl c.args.i c.requires)
