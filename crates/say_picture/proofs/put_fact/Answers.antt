-- `say_picture::put_fact` meets its contract: what is put is the phrase. Assumes nothing.
use mathlib.Core.Path.{refl}
use native.Mathlib.Omega.{arith}
use Rattle.phrases.proofs.Table.{phrase-room, phrase-put}
use Rattle.drawing.specs.Picture.{fact_lines}
use Rattle.say_picture.proofs.put_fact.Goals as goal

pub put_phrase-requires : goal.put_phrase-requires
unfolding fact_lines
put_phrase-requires c = omega (arith, phrase-room 100 fact_lines refl c.args.what)

pub returns : goal.returns
unfolding fact_lines
returns c = phrase-put 100 fact_lines refl c.args.what c.put_phrase.ensures
