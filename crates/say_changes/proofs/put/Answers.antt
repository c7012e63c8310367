-- `say_changes::put` meets its contract: what is put is the phrase. Assumes nothing.
use mathlib.Core.Path.{refl}
use native.Mathlib.Omega.{arith}
use Rattle.phrases.proofs.Table.{phrase-room, phrase-put}
use Rattle.say_changes.specs.Lines.{change_lines}
use Rattle.say_changes.proofs.put.Goals as goal

pub put_phrase-requires : goal.put_phrase-requires
unfolding change_lines
put_phrase-requires c = omega (arith, phrase-room 40 change_lines refl c.args.what)

pub returns : goal.returns
unfolding change_lines
returns c = phrase-put 40 change_lines refl c.args.what c.put_phrase.ensures
