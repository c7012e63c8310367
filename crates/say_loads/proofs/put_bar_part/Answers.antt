-- `say_loads::put_bar_part` meets its contract: what is put is the phrase. Assumes nothing.
use mathlib.Core.Path.{refl}
use native.Mathlib.Omega.{arith}
use Rattle.phrases.proofs.Table.{phrase-room, phrase-put}
use Rattle.drawing.specs.Loads.{load_lines}
use Rattle.say_loads.proofs.put_bar_part.Goals as goal

pub put_phrase-requires : goal.put_phrase-requires
unfolding load_lines
put_phrase-requires c = omega (arith, phrase-room 100 load_lines refl c.args.what)

pub returns : goal.returns
unfolding load_lines
returns c = phrase-put 100 load_lines refl c.args.what c.put_phrase.ensures
