-- `say_tally::put` meets its contract: what is put is the phrase. Assumes nothing.
use mathlib.Core.Path.{refl}
use native.Mathlib.Omega.{arith}
use Rattle.phrases.proofs.Table.{phrase-room, phrase-put}
use Rattle.say_tally.specs.Said.{tally_lines}
use Rattle.say_tally.proofs.put.Goals as goal

pub put_phrase-requires : goal.put_phrase-requires
unfolding tally_lines
put_phrase-requires c = omega (arith, phrase-room 70 tally_lines refl c.args.what)

pub returns : goal.returns
unfolding tally_lines
returns c = phrase-put 70 tally_lines refl c.args.what c.put_phrase.ensures
