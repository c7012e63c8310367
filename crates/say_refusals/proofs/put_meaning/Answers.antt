-- `say_refusals::put_meaning` meets its contract: what is put is the phrase of the number. Assumes nothing.
use mathlib.Core.Path.{refl}
use native.Mathlib.Omega.{arith}
use Rattle.phrases.proofs.Table.{phrase-room, phrase-put}
use Rattle.say_refusals.specs.Lines.{refusal_meanings}
use Rattle.say_refusals.specs.Said.{meaning}
use Rattle.say_refusals.proofs.put_meaning.Goals as goal

pub put_phrase-requires : goal.put_phrase-requires
unfolding refusal_meanings
put_phrase-requires c = omega (arith, phrase-room 100 refusal_meanings refl c.meaning_phrase.result)

pub returns : goal.returns
unfolding meaning refusal_meanings
returns c = let p = c.meaning_phrase in
    rw p.ensures at (phrase-put 100 refusal_meanings refl p.result c.put_phrase.ensures)
