-- `say_tally::plans_phrase` meets its contract: each count is that of the definition. Assumes nothing.
use Rattle.say_tally.proofs.plans_phrase.Goals as goal

pub returns : goal.returns
returns c = rw (c.marks_with-valid.ensures.0, c.marks_with.ensures.0, c.marks_with-2.ensures.0, c.marks_with-refused.ensures.0)
