-- `say_clashes::pair_phrase` meets its contract: by whether a third cell is named. Assumes nothing.
use borrow.Author.Tests.{lt-ltb, le-ltb}
use Rattle.say_clashes.proofs.pair_phrase.Goals as goal

pub returns-then-c-lt32 : goal.returns-then-c-lt32
returns-then-c-lt32 c = rw (lt-ltb c.args.c 32 c.if-c-lt32.true, c.third_way.ensures)

pub returns : goal.returns
returns c = rw (le-ltb c.args.c 32 c.if-c-lt32.false) c.way_phrase.ensures
