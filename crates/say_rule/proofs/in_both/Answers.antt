-- `say_rule::in_both` meets its contract: the tests that led to each return decide the conjunction. Assumes nothing.
use borrow.Author.Tests.{eq-eqb, ne_eqb}
use Rattle.say_rule.proofs.in_both.Goals as goal

pub returns-then-c-a : goal.returns-then-c-a
returns-then-c-a c = rw (eq-eqb _ _ c.if-c-a.true)

pub returns-then-c-b : goal.returns-then-c-b
returns-then-c-b c = simp (ne_eqb _ _ c.if-c-a.false, eq-eqb _ _ c.if-c-b.true)

pub returns-then-first-c-ne1 : goal.returns-then-first-c-ne1
returns-then-first-c-ne1 c = simp (ne_eqb _ _ c.if-c-a.false, ne_eqb _ _ c.if-c-b.false, ne_eqb _ _ c.if-first-c-ne1.true)

pub returns : goal.returns
returns c = simp (ne_eqb _ _ c.if-c-a.false, ne_eqb _ _ c.if-c-b.false, eq-eqb _ _ c.if-first-c-ne1.false)
