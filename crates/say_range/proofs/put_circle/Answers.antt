-- `say_range::put_circle` meets its contract: what is put is the phrase. Assumes nothing.
use mathlib.Core.Path.{refl}
use native.Mathlib.Omega.{arith}
use Rattle.phrases.proofs.Table.{phrase-room, phrase-put}
use Rattle.drawing.specs.Range.{circle_lines}
use Rattle.say_range.proofs.put_circle.Goals as goal

pub put_phrase-requires : goal.put_phrase-requires
unfolding circle_lines
put_phrase-requires c = omega (arith, phrase-room 100 circle_lines refl c.args.what)

pub returns : goal.returns
unfolding circle_lines
returns c = phrase-put 100 circle_lines refl c.args.what c.put_phrase.ensures
