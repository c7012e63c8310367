-- `planbits::put_rest` meets its contract. The invariant: to store the bytes that are left from j on makes the output. Assumes nothing.
use Rattle.std.proofs.Common.{sym, ◌∙◌}
use Rattle.planbits.proofs.Bits.{put_step, put-end}
use Rattle.planbits.proofs.put_rest.Goals as goal

pub loop-j-preserved : goal.loop-j-preserved
loop-j-preserved c = let l = c.loop-j in
    rw c.byte_of.ensures (put_step c.args.table.now l.out c.args.at l.j c.args.m c.loop-j-test.true ∙ l.invariant)

pub returns : goal.returns
returns c = let l = c.loop-j in
    sym (put-end c.args.table.now l.out c.args.at l.j c.args.m c.loop-j-test.false) ∙ l.invariant
