-- `say_grid::head_phrase` meets its contract: a case for each way out. Assumes nothing.
use borrow.Author.Tests.{eq-eqb, ne_eqb, lt-ltb, le-ltb}
use Rattle.say_grid.proofs.head_phrase.Goals as goal

pub returns-then-line-eq0 : goal.returns-then-line-eq0
returns-then-line-eq0 c = rw (eq-eqb c.args.line 0 c.if-line-eq0.true)

pub returns-then-line-lt10 : goal.returns-then-line-lt10
returns-then-line-lt10 c = let line = c.args.line in rw (ne_eqb line 0 c.if-line-eq0.false, lt-ltb line 10 c.if-line-lt10.true)

pub returns : goal.returns
returns c = let line = c.args.line in rw (ne_eqb line 0 c.if-line-eq0.false, le-ltb line 10 c.if-line-lt10.false)
