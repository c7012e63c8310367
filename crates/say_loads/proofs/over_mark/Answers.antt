-- `say_loads::over_mark` meets its contract: the tests decide. Assumes nothing.
use Prim.Native.Nat.{◌≤◌}
use native.Mathlib.Omega.{arith}
use borrow.Author.Tests.{lt-ltb, le-ltb}
use Rattle.drawing.specs.Loads.{over_mark}
use Rattle.drawing.proofs.Loads.{high-within}
use Rattle.say_loads.proofs.Ready.{bar-all, load-some}
use Rattle.say_loads.proofs.over_mark.Goals as goal

pub returns-then-load-eq0 : goal.returns-then-load-eq0
unfolding over_mark
returns-then-load-eq0 c = let none : c.args.load ≤ 0 = omega (arith, c.if-load-eq0.true) in rw (le-ltb 0 _ none)

pub overflow_add-load : goal.overflow_add-load
overflow_add-load c = omega (arith, bar-all _ _ _ _ c.requires c.if-load-eq0.false, c.requires.few)

pub returns-then-load-before : goal.returns-then-load-before
unfolding over_mark
returns-then-load-before c = rw (lt-ltb 0 _ (load-some _ c.if-load-eq0.false), le-ltb _ _ c.if-load-before.true)

pub overflow_add-load-2 : goal.overflow_add-load-2
overflow_add-load-2 c = omega (arith, bar-all _ _ _ _ c.requires c.if-load-eq0.false, c.requires.few)

pub bar_high-requires : goal.bar_high-requires
bar_high-requires c = (c.requires.some, omega (arith, bar-all _ _ _ _ c.requires c.if-load-eq0.false, c.requires.few))

pub overflow_sub-result : goal.overflow_sub-result
overflow_sub-result c = omega (arith, c.bar_high.ensures, high-within c.args.scale _ c.requires.some (bar-all _ _ _ _ c.requires c.if-load-eq0.false))

pub returns : goal.returns
unfolding over_mark
returns c = rw (lt-ltb 0 _ (load-some _ c.if-load-eq0.false), lt-ltb _ _ c.if-load-before.false, c.bar_high.ensures)
