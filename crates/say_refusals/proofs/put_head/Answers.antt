-- `say_refusals::put_head` meets its contract: what is put is the phrase of the place. Assumes nothing.
use mathlib.Core.Path.{refl}
use native.Mathlib.Omega.{arith}
use Rattle.phrases.proofs.Table.{phrase-room, phrase-put}
use Rattle.say_refusals.specs.Lines.{refusal_heads}
use Rattle.say_refusals.proofs.put_head.Goals as goal

pub put_phrase-requires : goal.put_phrase-requires
unfolding refusal_heads
put_phrase-requires c = omega (arith, phrase-room 100 refusal_heads refl c.head_phrase.result)

pub returns : goal.returns
unfolding refusal_heads
returns c = let p = c.head_phrase in
    rw p.ensures at (phrase-put 100 refusal_heads refl p.result c.put_phrase.ensures)
