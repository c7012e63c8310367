-- `say_range::put_line` meets its contract: what is put is the phrase. Assumes nothing.
use mathlib.Core.Path.{refl}
use native.Mathlib.Omega.{arith}
use Rattle.phrases.proofs.Table.{phrase-room, phrase-put}
use Rattle.drawing.specs.Range.{reach_lines}
use Rattle.say_range.proofs.put_line.Goals as goal

pub put_phrase-requires : goal.put_phrase-requires
unfolding reach_lines
put_phrase-requires c = omega (arith, phrase-room 50 reach_lines refl c.args.what)

pub returns : goal.returns
unfolding reach_lines
returns c = phrase-put 50 reach_lines refl c.args.what c.put_phrase.ensures
