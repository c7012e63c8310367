-- `say_clashes::put` meets its contract: what is put is the phrase. Assumes nothing.
use mathlib.Core.Path.{refl}
use native.Mathlib.Omega.{arith}
use Rattle.phrases.proofs.Table.{phrase-room, phrase-put}
use Rattle.say_clashes.specs.Lines.{clash_lines}
use Rattle.say_clashes.proofs.put.Goals as goal

pub put_phrase-requires : goal.put_phrase-requires
unfolding clash_lines
put_phrase-requires c = omega (arith, phrase-room 70 clash_lines refl c.args.what)

pub returns : goal.returns
unfolding clash_lines
returns c = phrase-put 70 clash_lines refl c.args.what c.put_phrase.ensures
