-- `places::clash_mark` meets its contract: a case for each way out. Assumes nothing.
use Rattle.places.proofs.clash_mark.Goals as goal

pub returns-then-clash : goal.returns-then-clash
returns-then-clash c = rw c.if-clash.true

pub returns : goal.returns
returns c = rw c.if-clash.false
