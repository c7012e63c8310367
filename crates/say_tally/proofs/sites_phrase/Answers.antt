-- `say_tally::sites_phrase` meets its contract: each count is that of the definition. Assumes nothing.
use Rattle.say_tally.proofs.sites_phrase.Goals as goal

pub returns : goal.returns
returns c = rw (c.marks_with-planned.ensures.0, c.marks_with-full.ensures.0, c.marks_with-unknown.ensures.0)
