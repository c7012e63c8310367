-- `inputs::put` meets its contract: what is put is the phrase. Assumes nothing.
use mathlib.Core.Path.{refl}
use native.Mathlib.Omega.{arith}
use Rattle.phrases.proofs.Table.{phrase-room, phrase-put}
use Rattle.inputs.specs.Lines.{input_lines}
use Rattle.inputs.proofs.put.Goals as goal

pub put_phrase-requires : goal.put_phrase-requires
unfolding input_lines
put_phrase-requires c = omega (arith, phrase-room 50 input_lines refl c.args.what)

pub returns : goal.returns
unfolding input_lines
returns c = phrase-put 50 input_lines refl c.args.what c.put_phrase.ensures
