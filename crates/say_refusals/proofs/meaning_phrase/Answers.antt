-- `say_refusals::meaning_phrase` meets its contract: there are so many rows. Assumes nothing.
use mathlib.Core.Path.{◌≡◌}
use mathlib.Core.Bool.{true, false}
use lib.Dec.{ltb}
use lib.ListN.{length}
use borrow.Author.Tests.{lt-ltb, le-ltb}
use Rattle.say_refusals.specs.Lines.{refusal_meanings}
use Rattle.say_refusals.proofs.meaning_phrase.Goals as goal

pub returns-then-number-lt-MEANINGS : goal.returns-then-number-lt-MEANINGS
unfolding refusal_meanings
returns-then-number-lt-MEANINGS c = let e : ltb c.args.number (length refusal_meanings) ≡ true = lt-ltb _ 27 c.if-number-lt-MEANINGS.true in rw e

pub returns : goal.returns
unfolding refusal_meanings
returns c = let e : ltb c.args.number (length refusal_meanings) ≡ false = le-ltb _ 27 c.if-number-lt-MEANINGS.false in rw e
