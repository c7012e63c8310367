-- `places::put_part` meets its contract: what is put is the phrase. Assumes nothing.
use mathlib.Core.Path.{refl}
use native.Mathlib.Omega.{arith}
use Rattle.phrases.proofs.Table.{phrase-room, phrase-put}
use Rattle.places.specs.Lines.{spread_lines}
use Rattle.places.proofs.put_part.Goals as goal

pub put_phrase-requires : goal.put_phrase-requires
unfolding spread_lines
put_phrase-requires c = omega (arith, phrase-room 30 spread_lines refl c.args.what)

pub returns : goal.returns
unfolding spread_lines
returns c = phrase-put 30 spread_lines refl c.args.what c.put_phrase.ensures
