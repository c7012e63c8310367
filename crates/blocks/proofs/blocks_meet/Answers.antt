-- `blocks::blocks_meet` meets its contract: something is in two numbers joined where it is in one of them. Assumes nothing.
use lib.Bits.{bit_and}
use Rattle.laws.proofs.Bits.{either-some}
use Rattle.blocks.specs.Order.{meeting}
use Rattle.blocks.proofs.blocks_meet.Goals as goal

pub returns : goal.returns
unfolding meeting
returns c = either-some (bit_and c.args.low c.args.x) (bit_and c.args.high c.args.y)
