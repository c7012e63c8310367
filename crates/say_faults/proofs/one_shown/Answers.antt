-- `say_faults::one_shown` meets its contract: by whether the piece has a fault of the cell. Assumes nothing.
use mathlib.Core.Path.{sym, ◌∙◌}
use Rattle.say_faults.proofs.one_shown.Goals as goal

pub returns-then-shows : goal.returns-then-shows
returns-then-shows c = rw (sym c.shows.ensures ∙ c.if-shows.true)

pub returns : goal.returns
returns c = rw (sym c.shows.ensures ∙ c.if-shows.false)
