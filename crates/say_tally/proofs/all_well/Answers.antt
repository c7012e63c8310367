-- `say_tally::all_well` meets its contract: each count is that of the definition. Assumes nothing.
use Rattle.say_tally.specs.Said.{all_well}
use Rattle.say_tally.proofs.all_well.Goals as goal

pub returns : goal.returns
unfolding all_well
returns c = rw (c.marks_with-sites.ensures.0, c.marks_with.ensures.0, c.marks_with-2.ensures.0, c.marks_with-plans.ensures.0)
