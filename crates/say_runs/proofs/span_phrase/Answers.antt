-- `say_runs::span_phrase` meets its contract: a case for each way out. Assumes nothing.
use Prim.Native.Nat.{◌+◌}
use borrow.Author.Tests.{eq-eqb, ne_eqb}
use Rattle.say_runs.specs.Said.{span_phrase}
use Rattle.say_runs.proofs.span_phrase.Goals as goal

pub returns-then-start-end : goal.returns-then-start-end
unfolding span_phrase
returns-then-start-end c = let a = c.args in rw (c.if-on.true, eq-eqb (a.from + 1) a.end c.if-start-end.true)

pub returns-then-on : goal.returns-then-on
unfolding span_phrase
returns-then-on c = let a = c.args in rw (c.if-on.true, ne_eqb (a.from + 1) a.end c.if-start-end.false)

pub returns-then-start-end-2 : goal.returns-then-start-end-2
unfolding span_phrase
returns-then-start-end-2 c = let a = c.args in rw (c.if-on.false, eq-eqb (a.from + 1) a.end c.if-start-end-2.true)

pub returns : goal.returns
unfolding span_phrase
returns c = let a = c.args in rw (c.if-on.false, ne_eqb (a.from + 1) a.end c.if-start-end-2.false)
