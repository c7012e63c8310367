-- `planbits::unpack_rest` meets its contract. The invariant: to store the bits that are left from k on makes the table. Assumes nothing.
use Rattle.std.proofs.Common.{sym, ◌∙◌}
use Rattle.planbits.proofs.Bits.{rest-step, rest_end}
use Rattle.planbits.proofs.unpack_rest.Goals as goal

pub loop-k-preserved : goal.loop-k-preserved
loop-k-preserved c = let l = c.loop-k in
    rest-step c.args.body.now l.table l.k c.args.n c.loop-k-test.true ∙ l.invariant

pub returns : goal.returns
returns c = let l = c.loop-k in
    sym (rest_end c.args.body.now l.table l.k c.args.n c.loop-k-test.false) ∙ l.invariant
