-- `blocklist::read_block` meets its contract: the definition. Assumes nothing.
use Rattle.blocklist.specs.Read.{block_read}
use Rattle.blocklist.proofs.read_block.Goals as goal

pub returns : goal.returns
unfolding block_read
returns c = rw (c.read_span-b.ensures, c.eat-dot.ensures, c.read_span-a.ensures)
