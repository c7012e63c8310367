-- `say_range::by_third` meets its contract: the tests decide the conjunction. Assumes nothing.
use mathlib.Core.Path.{sym, ◌∙◌}
use borrow.Author.Tests.{lt-ltb, le-ltb}
use Rattle.site.specs.Reach.{reaches}
use Rattle.say_range.proofs.by_third.Goals as goal

pub returns-then-b-a : goal.returns-then-b-a
unfolding reaches
returns-then-b-a c = simp (le-ltb _ _ c.if-b-a.true)

pub returns-then-has : goal.returns-then-has
unfolding reaches
returns-then-has c = simp (lt-ltb _ _ c.if-b-a.false, sym c.has.ensures ∙ c.if-has.true)

pub returns : goal.returns
unfolding reaches
returns c = simp (lt-ltb _ _ c.if-b-a.false, sym c.has.ensures ∙ c.if-has.false) c.has-2.ensures
