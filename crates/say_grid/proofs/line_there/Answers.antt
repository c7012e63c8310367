-- `say_grid::line_there` meets its contract: the tests that led to each return decide the conjunction. Assumes nothing.
use mathlib.Core.Path.{sym, ◌∙◌}
use borrow.Author.Tests.{lt-ltb, le-ltb}
use Rattle.say_grid.specs.Grid.{line_there}
use Rattle.say_grid.proofs.line_there.Goals as goal

pub returns-then-not-can_judge : goal.returns-then-not-can_judge
unfolding line_there
returns-then-not-can_judge c = rw (sym c.can_judge.ensures ∙ c.if-not-can_judge.true)

pub returns-then-site-line : goal.returns-then-site-line
unfolding line_there
returns-then-site-line c = let a = c.args in
    rw (sym c.can_judge.ensures ∙ c.if-not-can_judge.false, lt-ltb a.site.channels a.line c.if-site-line.true)

pub returns-then-slots-from : goal.returns-then-slots-from
unfolding line_there
returns-then-slots-from c = let a = c.args in
    rw (
      sym c.can_judge.ensures ∙ c.if-not-can_judge.false,
      le-ltb a.site.channels a.line c.if-site-line.false,
      lt-ltb a.site.slots a.from c.if-slots-from.true,
    )

pub returns : goal.returns
unfolding line_there
returns c = let a = c.args in
    rw (
      sym c.can_judge.ensures ∙ c.if-not-can_judge.false,
      le-ltb a.site.channels a.line c.if-site-line.false,
      le-ltb a.site.slots a.from c.if-slots-from.false,
    )
