-- `planbits::put_blocks` meets its contract. The invariant: to store the bytes that are left from block j on makes the output. Assumes nothing.
use Rattle.std.proofs.Common.{sym, ◌∙◌}
use Rattle.planbits.proofs.Block.{block-step, block-end}
use Rattle.planbits.proofs.put_blocks.Goals as goal

pub loop-j-preserved : goal.loop-j-preserved
loop-j-preserved c = let l = c.loop-j in
    rw c.put_block.ensures (block-step c.args.table.now l.out c.args.at l.j c.args.b c.loop-j-test.true ∙ l.invariant)

pub returns : goal.returns
returns c = let l = c.loop-j in
    sym (block-end c.args.table.now l.out c.args.at l.j c.args.b c.loop-j-test.false) ∙ l.invariant
