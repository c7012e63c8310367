-- `say_slots::put_frame` meets its contract: what is put is the phrase. Assumes nothing.
use mathlib.Core.Path.{refl}
use native.Mathlib.Omega.{arith}
use Rattle.phrases.proofs.Table.{phrase-room, phrase-put}
use Rattle.drawing.specs.Lines.{band_lines}
use Rattle.say_slots.proofs.put_frame.Goals as goal

pub put_phrase-requires : goal.put_phrase-requires
unfolding band_lines
put_phrase-requires c = omega (arith, phrase-room 49 band_lines refl c.args.what)

pub returns : goal.returns
unfolding band_lines
returns c = phrase-put 49 band_lines refl c.args.what c.put_phrase.ensures
