-- `say_answers::sentence_of` meets its contract: done, a refusal with a place, or one with a row of its own. Assumes nothing.
use mathlib.Core.Path.{sym}
use borrow.Author.Tests.{eq-eqb, ne_eqb}
use Rattle.say_answers.specs.Said.{answer_says}
use Rattle.say_answers.proofs.sentence_of.Goals as goal

pub returns-then-number-eq0 : goal.returns-then-number-eq0
unfolding answer_says
returns-then-number-eq0 c = rw (eq-eqb _ _ c.if-number-eq0.true, c.done_row.ensures)

pub returns-then-own-eq0 : goal.returns-then-own-eq0
unfolding answer_says
returns-then-own-eq0 c = rw (ne_eqb _ _ c.if-number-eq0.false, sym c.own_row-own.ensures, eq-eqb _ _ c.if-own-eq0.true, c.place_of.ensures)

pub returns : goal.returns
unfolding answer_says
returns c = rw (ne_eqb _ _ c.if-number-eq0.false, sym c.own_row-own.ensures, ne_eqb _ _ c.if-own-eq0.false)
