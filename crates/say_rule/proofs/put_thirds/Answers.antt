-- `say_rule::put_thirds` meets its contract: under rule 2 the lines of the cell, and else nothing. Assumes nothing.
use borrow.Author.Tests.{eq-eqb, ne_eqb}
use Rattle.phrases.proofs.Put.{put-none}
use Rattle.say_rule.proofs.put_thirds.Goals as goal

pub returns-then-rule-ne2 : goal.returns-then-rule-ne2
returns-then-rule-ne2 c = rw (ne_eqb _ 2 c.if-rule-ne2.true) (put-none _ _ _)

pub returns : goal.returns
returns c = rw (eq-eqb _ 2 c.if-rule-ne2.false) c.put_seconds.ensures
