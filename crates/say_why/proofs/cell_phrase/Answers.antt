-- `say_why::cell_phrase` meets its contract: a case for each way out. Assumes nothing.
use mathlib.Core.Path.{sym, ◌∙◌}
use Rattle.why.specs.Said.{cell_phrase}
use Rattle.say_why.proofs.cell_phrase.Goals as goal

pub returns-then-has : goal.returns-then-has
unfolding cell_phrase
returns-then-has c = rw (sym c.has.ensures ∙ c.if-has.true)

pub returns : goal.returns
unfolding cell_phrase
returns c = rw (sym c.has.ensures ∙ c.if-has.false)
