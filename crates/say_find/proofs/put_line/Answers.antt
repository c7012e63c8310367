-- `say_find::put_line` meets its contract: what is put is the phrase. Assumes nothing.
use mathlib.Core.Path.{refl}
use native.Mathlib.Omega.{arith}
use Rattle.phrases.proofs.Table.{phrase-room, phrase-put}
use Rattle.finds.specs.Lines.{find_lines}
use Rattle.say_find.proofs.put_line.Goals as goal

pub put_phrase-requires : goal.put_phrase-requires
unfolding find_lines
put_phrase-requires c = omega (arith, phrase-room 100 find_lines refl c.args.what)

pub returns : goal.returns
unfolding find_lines
returns c = phrase-put 100 find_lines refl c.args.what c.put_phrase.ensures
