-- `planbits::unpack_whole` meets its contract. The invariant: to store the bits that are left from byte j on makes the table. Assumes nothing.
use Rattle.std.proofs.Common.{sym, ◌∙◌}
use Rattle.planbits.proofs.Bits.{whole-step, whole-end}
use Rattle.planbits.proofs.unpack_whole.Goals as goal

pub loop-j-preserved : goal.loop-j-preserved
loop-j-preserved c = let l = c.loop-j in
    rw c.spread.ensures (whole-step c.args.body.now l.table l.j c.args.m c.loop-j-test.true ∙ l.invariant)

pub returns : goal.returns
returns c = let l = c.loop-j in
    sym (whole-end c.args.body.now l.table l.j c.args.m c.loop-j-test.false) ∙ l.invariant
