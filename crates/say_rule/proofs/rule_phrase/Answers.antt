-- `say_rule::rule_phrase` meets its contract: of every rule but 2 nothing is said. Assumes nothing.
use borrow.Author.Tests.{eq-eqb, ne_eqb}
use Rattle.say_rule.proofs.rule_phrase.Goals as goal

pub returns-then-rule-eq2 : goal.returns-then-rule-eq2
returns-then-rule-eq2 c = rw (eq-eqb c.args.rule 2 c.if-rule-eq2.true)

pub returns : goal.returns
returns c = rw (ne_eqb c.args.rule 2 c.if-rule-eq2.false)
