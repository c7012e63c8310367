-- `say_ways::changes_sentence` meets its contract: no change, or some. Assumes nothing.
use borrow.Author.Tests.{eq-eqb, ne_eqb}
use Rattle.verdicts.specs.Said.{changes_sentence}
use Rattle.say_ways.proofs.changes_sentence.Goals as goal

pub returns-then-number-eq0 : goal.returns-then-number-eq0
unfolding changes_sentence
returns-then-number-eq0 c = rw (eq-eqb _ 0 c.if-number-eq0.true)

pub returns : goal.returns
unfolding changes_sentence
returns c = rw (ne_eqb _ 0 c.if-number-eq0.false)
