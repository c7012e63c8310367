-- `reachrows::with_bit` meets its contract: `1 << b` is the power of two. Assumes nothing.
use Rattle.laws.specs.Bits.{set_bit}
use Rattle.laws.proofs.Bits.{one_shl}
use Rattle.reachrows.proofs.with_bit.Goals as goal

pub returns : goal.returns
unfolding set_bit
returns c = simp (one_shl c.args.b c.requires)
