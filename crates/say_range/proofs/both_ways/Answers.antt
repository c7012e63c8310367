-- `say_range::both_ways-law` meets its contract: the tests decide the conjunction. Assumes nothing.
use mathlib.Core.Path.{sym, ◌∙◌}
use borrow.Author.Tests.{lt-ltb, le-ltb}
use Rattle.site.specs.Reach.{reaches}
use Rattle.say_range.proofs.both_ways.Goals as goal

pub returns-then-b-a : goal.returns-then-b-a
unfolding reaches
returns-then-b-a c = simp (le-ltb _ _ c.if-b-a.true)

pub returns-then-not-has : goal.returns-then-not-has
unfolding reaches
returns-then-not-has c = simp (lt-ltb _ _ c.if-b-a.false, sym c.has.ensures ∙ c.if-not-has.true)

pub returns : goal.returns
unfolding reaches
returns c = simp (lt-ltb _ _ c.if-b-a.false, sym c.has.ensures ∙ c.if-not-has.false) c.has-2.ensures
