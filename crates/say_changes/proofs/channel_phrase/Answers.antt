-- `say_changes::channel_phrase` meets its contract: a case for each pair of bytes. Assumes nothing.
use borrow.Author.Tests.{eq-eqb, ne_eqb}
use Rattle.say_changes.proofs.channel_phrase.Goals as goal

pub returns-then-was-eq1 : goal.returns-then-was-eq1
returns-then-was-eq1 c = let a = c.args in
    rw (eq-eqb a.is 1 c.if-is-eq1.true, eq-eqb a.was 1 c.if-was-eq1.true)

pub returns-then-is-eq1 : goal.returns-then-is-eq1
returns-then-is-eq1 c = let a = c.args in
    rw (eq-eqb a.is 1 c.if-is-eq1.true, ne_eqb a.was 1 c.if-was-eq1.false)

pub returns-then-was-eq1-2 : goal.returns-then-was-eq1-2
returns-then-was-eq1-2 c = let a = c.args in
    rw (ne_eqb a.is 1 c.if-is-eq1.false, eq-eqb a.was 1 c.if-was-eq1-2.true)

pub returns : goal.returns
returns c = let a = c.args in
    rw (ne_eqb a.is 1 c.if-is-eq1.false, ne_eqb a.was 1 c.if-was-eq1-2.false)
