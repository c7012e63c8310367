-- `heaviest::cleared` meets its contract: `1 << j` is the power of two. Assumes nothing.
use Rattle.laws.specs.Bits.{clear_bit}
use Rattle.laws.proofs.Bits.{one_shl}
use Rattle.heaviest.proofs.cleared.Goals as goal

pub returns : goal.returns
unfolding clear_bit
returns c = simp (one_shl c.args.j c.requires)
