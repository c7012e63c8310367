-- `say_edits::put` meets its contract: what is put is the phrase. Assumes nothing.
use mathlib.Core.Path.{refl}
use native.Mathlib.Omega.{arith}
use Rattle.phrases.proofs.Table.{phrase-room, phrase-put}
use Rattle.say_edits.specs.Lines.{edit_lines}
use Rattle.say_edits.proofs.put.Goals as goal

pub put_phrase-requires : goal.put_phrase-requires
unfolding edit_lines
put_phrase-requires c = omega (arith, phrase-room 100 edit_lines refl c.args.what)

pub returns : goal.returns
unfolding edit_lines
returns c = phrase-put 100 edit_lines refl c.args.what c.put_phrase.ensures
