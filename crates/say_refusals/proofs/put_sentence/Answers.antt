-- `say_refusals::put_sentence` meets its contract: a phrase of the table, or a refusal. Assumes nothing.
use Rattle.say_refusals.proofs.put_sentence.Goals as goal

pub put_phrase-requires : goal.put_phrase-requires
put_phrase-requires c = rw c.in-Plain.is at c.requires

pub put_refused-requires : goal.put_refused-requires
put_refused-requires c = rw c.in-Refusal.is at c.requires

pub returns-in-Plain : goal.returns-in-Plain
returns-in-Plain c = rw c.in-Plain.is c.put_phrase.ensures

pub returns-in-Refusal : goal.returns-in-Refusal
returns-in-Refusal c = rw c.in-Refusal.is c.put_refused.ensures
