-- `planbits::unpack_blocks` meets its contract. The invariant: to store the bits that are left from block j on makes the table. Assumes nothing.
use Rattle.std.proofs.Common.{sym, ◌∙◌}
use Rattle.planbits.proofs.Halves.{blocks_step, blocks_end}
use Rattle.planbits.proofs.unpack_blocks.Goals as goal

pub loop-j-preserved : goal.loop-j-preserved
loop-j-preserved c = let l = c.loop-j in
    rw c.unpack_block.ensures (blocks_step c.args.body.now l.table l.j c.args.b c.loop-j-test.true ∙ l.invariant)

pub returns : goal.returns
returns c = let l = c.loop-j in
    sym (blocks_end c.args.body.now l.table l.j c.args.b c.loop-j-test.false) ∙ l.invariant
