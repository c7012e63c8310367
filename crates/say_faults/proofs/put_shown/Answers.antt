-- `say_faults::put_shown` meets its contract: nothing where the piece has no fault of the cell, and else the line of a check. Assumes nothing.
use mathlib.Core.List.{append-nil}
use mathlib.Core.Path.{sym, ◌∙◌}
use Rattle.phrases.proofs.Put.{put-none}
use Rattle.say_faults.specs.Said.{faults_said}
use Rattle.say_faults.proofs.put_shown.Goals as goal

pub returns-then-not-shows : goal.returns-then-not-shows
unfolding faults_said
returns-then-not-shows c = rw (sym c.shows.ensures ∙ c.if-not-shows.true) (put-none _ _ _)

pub returns : goal.returns
unfolding faults_said
returns c = rw (sym c.shows.ensures ∙ c.if-not-shows.false, append-nil _, ← c.answer.ensures) c.put_check.ensures
