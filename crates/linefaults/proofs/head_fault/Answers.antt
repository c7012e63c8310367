-- `linefaults::head_fault` meets its contract: the mark of the byte order, then the line. Assumes nothing.
use Rattle.linefaults.specs.Fault.{head_fault}
use Rattle.linefaults.proofs.Lines.{mark-there, mark_not}
use Rattle.linefaults.proofs.head_fault.Goals as goal

pub returns-then-at-eq3 : goal.returns-then-at-eq3
unfolding head_fault
returns-then-at-eq3 c = rw (mark-there _ _ c.eat_text-at.ensures c.if-at-eq3.true)

pub returns : goal.returns
unfolding head_fault
returns c = rw (mark_not _ _ c.eat_text-at.ensures c.if-at-eq3.false) c.fault_from.ensures
