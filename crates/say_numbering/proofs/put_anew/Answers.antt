-- `say_numbering::put_anew` meets its contract: what is put is the phrase. Assumes nothing.
use mathlib.Core.Path.{refl}
use native.Mathlib.Omega.{arith}
use Rattle.phrases.proofs.Table.{phrase-room, phrase-put}
use Rattle.say_numbering.specs.Lines.{anew_lines}
use Rattle.say_numbering.specs.Anew.{anew_said}
use Rattle.say_numbering.proofs.put_anew.Goals as goal

pub put_phrase-requires : goal.put_phrase-requires
unfolding anew_lines
put_phrase-requires c = omega (arith, phrase-room 100 anew_lines refl c.anew-what.result)

pub returns : goal.returns
unfolding anew_lines anew_said
returns c = rw c.anew-what.ensures at (phrase-put 100 anew_lines refl c.anew-what.result c.put_phrase.ensures)
