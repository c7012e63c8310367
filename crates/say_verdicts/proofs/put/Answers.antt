-- `say_verdicts::put` meets its contract: what is put is the sentence. Assumes nothing.
use mathlib.Core.Path.{refl}
use native.Mathlib.Omega.{arith}
use Rattle.say_refusals.proofs.Sentences.{sentence-room, sentence-put}
use Rattle.verdicts.specs.Lines.{verdict_lines}
use Rattle.say_verdicts.proofs.put.Goals as goal

pub put_sentence-requires : goal.put_sentence-requires
unfolding verdict_lines
put_sentence-requires c = omega (arith, sentence-room verdict_lines refl c.args.what)

pub returns : goal.returns
unfolding verdict_lines
returns c = sentence-put verdict_lines refl c.args.what c.put_sentence.ensures
