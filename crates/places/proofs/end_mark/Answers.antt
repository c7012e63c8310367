-- `places::end_mark` meets its contract: a case for each way out. Assumes nothing.
use borrow.Author.Tests.{eq-eqb, ne_eqb}
use Rattle.places.proofs.end_mark.Goals as goal

pub returns-then-blocked : goal.returns-then-blocked
returns-then-blocked c = rw c.if-blocked.true

pub returns-then-word-eq0 : goal.returns-then-word-eq0
returns-then-word-eq0 c = rw (c.if-blocked.false, eq-eqb c.args.word 0 c.if-word-eq0.true)

pub returns : goal.returns
returns c = rw (c.if-blocked.false, ne_eqb c.args.word 0 c.if-word-eq0.false)
