-- `say_flows::put` meets its contract: what is put is the phrase. Assumes nothing.
use mathlib.Core.Path.{refl}
use native.Mathlib.Omega.{arith}
use Rattle.phrases.proofs.Table.{phrase-room, phrase-put}
use Rattle.say_flows.specs.Lines.{admit_lines}
use Rattle.say_flows.proofs.put.Goals as goal

pub put_phrase-requires : goal.put_phrase-requires
unfolding admit_lines
put_phrase-requires c = omega (arith, phrase-room 60 admit_lines refl c.args.what)

pub returns : goal.returns
unfolding admit_lines
returns c = phrase-put 60 admit_lines refl c.args.what c.put_phrase.ensures
