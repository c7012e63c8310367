-- `say_slots::put_one_mark` meets its contract: what is put is the phrase. Assumes nothing.
use mathlib.Core.Path.{refl}
use native.Mathlib.Omega.{arith}
use Rattle.phrases.proofs.Table.{phrase-room, phrase-put}
use Rattle.drawing.specs.Lines.{mark_lines}
use Rattle.say_slots.proofs.put_one_mark.Goals as goal

pub put_phrase-requires : goal.put_phrase-requires
unfolding mark_lines
put_phrase-requires c = omega (arith, phrase-room 48 mark_lines refl c.args.what)

pub returns : goal.returns
unfolding mark_lines
returns c = phrase-put 48 mark_lines refl c.args.what c.put_phrase.ensures
