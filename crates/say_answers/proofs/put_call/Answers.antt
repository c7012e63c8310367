-- `say_answers::put_call` meets its contract: what is put is the sentence. Assumes nothing.
use mathlib.Core.Path.{refl}
use native.Mathlib.Omega.{arith}
use Rattle.say_refusals.proofs.Sentences.{sentence-room, sentence-put}
use Rattle.say_answers.specs.Lines.{answer_lines}
use Rattle.say_answers.proofs.put_call.Goals as goal

pub put_sentence-requires : goal.put_sentence-requires
unfolding answer_lines
put_sentence-requires c = omega (arith, sentence-room answer_lines refl c.sentence_of.result)

pub returns : goal.returns
unfolding answer_lines
returns c = let p = c.sentence_of in
    rw p.ensures at (sentence-put answer_lines refl p.result c.put_sentence.ensures)
