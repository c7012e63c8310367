-- `places::spread_marks` meets its contract: a case for each way out. Assumes nothing.
use Rattle.places.proofs.spread_marks.Goals as goal

pub returns-then-blocked : goal.returns-then-blocked
returns-then-blocked c = rw (c.if-clash.true, c.if-blocked.true)

pub returns-then-clash : goal.returns-then-clash
returns-then-clash c = rw (c.if-clash.true, c.if-blocked.false)

pub returns-then-blocked-2 : goal.returns-then-blocked-2
returns-then-blocked-2 c = rw (c.if-clash.false, c.if-blocked-2.true)

pub returns : goal.returns
returns c = rw (c.if-clash.false, c.if-blocked-2.false)
