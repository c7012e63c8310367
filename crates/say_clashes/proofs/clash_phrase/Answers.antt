-- `say_clashes::clash_phrase` meets its contract: the lower cell is first, and the two reaches and the third cell say the rest. Assumes nothing.
use borrow.Author.Tests.{lt-ltb, le-ltb}
use Rattle.site.specs.Reach.{reaches}
use Rattle.say_clashes.specs.Said.{clash_phrase}
use Rattle.say_clashes.proofs.clash_phrase.Goals as goal

pub returns-then-b-a : goal.returns-then-b-a
unfolding clash_phrase
returns-then-b-a c = rw (le-ltb c.args.a c.args.b c.if-b-a.true)

pub returns : goal.returns
unfolding clash_phrase reaches
returns c = let a = c.args in
    rw (lt-ltb a.a a.b c.if-b-a.false) (rw c.third_under-third.ensures at c.pair_phrase.ensures)
