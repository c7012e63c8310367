-- `site::rule_ok` meets its contract: each test decides its part. Assumes nothing.
use borrow.Author.Tests.{eq-eqb, ne_eqb}
use Rattle.site.specs.Record.{rule_ok}
use Rattle.site.proofs.rule_ok.Goals as goal

pub returns-then-rule-eq1 : goal.returns-then-rule-eq1
unfolding rule_ok
returns-then-rule-eq1 c = rw (eq-eqb _ _ c.if-rule-eq1.true)

pub returns : goal.returns
unfolding rule_ok
returns c = rw (ne_eqb _ _ c.if-rule-eq1.false)
