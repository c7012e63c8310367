-- `sitefile::loads_of` meets its contract. The invariant: to store the numbers that are left of the body from i on makes the answer. Assumes nothing.
use Rattle.std.proofs.Common.{sym, ◌∙◌, arith}
use Rattle.records.proofs.Laws.{loads-done}
use Rattle.sitefile.proofs.loads_of.Goals as goal

pub returns : goal.returns
returns c = let l = c.loop-i in
    sym (loads-done l.loads c.args.body.now l.i (omega arith)) ∙ l.invariant
