-- `say_range::one_way-law` meets its contract: the tests decide the conjunction. Assumes nothing.
use mathlib.Core.Path.{sym, ap, ◌∙◌}
use mathlib.Core.Bool.{not}
use Rattle.site.specs.Reach.{reaches}
use Rattle.say_range.proofs.one_way.Goals as goal

pub returns-then-not-has : goal.returns-then-not-has
unfolding reaches
returns-then-not-has c = simp (sym c.has.ensures ∙ c.if-not-has.true)

pub returns : goal.returns
unfolding reaches
returns c = simp (sym c.has.ensures ∙ c.if-not-has.false) (ap not c.has-2.ensures)
