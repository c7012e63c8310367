-- `say_clashes::third_under` meets its contract: only under rule 2 is a third cell looked for. Assumes nothing.
use borrow.Author.Tests.{eq-eqb, ne_eqb}
use Rattle.say_clashes.specs.Said.{third_under}
use Rattle.say_clashes.proofs.third_under.Goals as goal

pub returns-then-rule-ne2 : goal.returns-then-rule-ne2
unfolding third_under
returns-then-rule-ne2 c = rw (ne_eqb c.args.rule 2 c.if-rule-ne2.true)

pub returns : goal.returns
unfolding third_under
returns c = rw (eq-eqb c.args.rule 2 c.if-rule-ne2.false) c.third_of.ensures
