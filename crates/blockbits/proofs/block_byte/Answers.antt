-- `blockbits::block_byte` meets its contract: eight bits of a word. Assumes nothing.
use Rattle.blockbits.proofs.Blocks.{byte-is}
use Rattle.blockbits.proofs.block_byte.Goals as goal

pub returns : goal.returns
returns c = byte-is c.args.set.now c.args.j
