-- `say_cells::put` meets its contract: what is put is the phrase. Assumes nothing.
use mathlib.Core.Path.{refl}
use native.Mathlib.Omega.{arith}
use Rattle.phrases.proofs.Table.{phrase-room, phrase-put}
use Rattle.say_cells.specs.Lines.{sender_lines}
use Rattle.say_cells.proofs.put.Goals as goal

pub put_phrase-requires : goal.put_phrase-requires
unfolding sender_lines
put_phrase-requires c = omega (arith, phrase-room 30 sender_lines refl c.args.what)

pub returns : goal.returns
unfolding sender_lines
returns c = phrase-put 30 sender_lines refl c.args.what c.put_phrase.ensures
