-- `say_sheets::put_made` meets its contract: what is put is the phrase. Assumes nothing.
use mathlib.Core.Path.{refl}
use native.Mathlib.Omega.{arith}
use Rattle.phrases.proofs.Table.{phrase-room, phrase-put}
use Rattle.say_sheets.specs.Lines.{made_lines}
use Rattle.say_sheets.proofs.put_made.Goals as goal

pub put_phrase-requires : goal.put_phrase-requires
unfolding made_lines
put_phrase-requires c = omega (arith, phrase-room 70 made_lines refl c.made_phrase.result)

pub returns : goal.returns
unfolding made_lines
returns c = rw c.made_phrase.ensures at (phrase-put 70 made_lines refl c.made_phrase.result c.put_phrase.ensures)
