-- `say_cells::held_as` meets its contract: the test decides. Assumes nothing.
use mathlib.Core.Path.{sym, ◌∙◌}
use Rattle.say_cells.proofs.held_as.Goals as goal

pub returns-then-not-has : goal.returns-then-not-has
returns-then-not-has c = rw (sym c.has.ensures ∙ c.if-not-has.true)

pub returns : goal.returns
returns c = rw (sym c.has.ensures ∙ c.if-not-has.false) c.of_kind.ensures
