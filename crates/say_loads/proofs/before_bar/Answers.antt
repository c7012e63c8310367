-- `say_loads::before_bar` meets its contract: the tests decide. Assumes nothing.
use native.Mathlib.Omega.{arith}
use borrow.Author.Tests.{eq-eqb, ne_eqb}
use Rattle.drawing.specs.Loads.{before_bar}
use Rattle.say_loads.proofs.Ready.{bar-all}
use Rattle.say_loads.proofs.before_bar.Goals as goal

pub returns-then-load-eq0 : goal.returns-then-load-eq0
unfolding before_bar
returns-then-load-eq0 c = rw (eq-eqb _ _ c.if-load-eq0.true)

pub returns-then-before-eq0 : goal.returns-then-before-eq0
unfolding before_bar
returns-then-before-eq0 c = rw (ne_eqb _ _ c.if-load-eq0.false, eq-eqb _ _ c.if-before-eq0.true)

pub bar_high-requires : goal.bar_high-requires
bar_high-requires c = (c.requires.some, omega (arith, bar-all _ _ _ _ c.requires c.if-load-eq0.false, c.requires.few))

pub returns : goal.returns
unfolding before_bar
returns c = rw (ne_eqb _ _ c.if-load-eq0.false, ne_eqb _ _ c.if-before-eq0.false, c.bar_high.ensures)
