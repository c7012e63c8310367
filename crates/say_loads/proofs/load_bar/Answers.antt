-- `say_loads::load_bar` meets its contract: the bar is within the height, and no lower than what it stands on. Assumes nothing.
use Prim.Native.Nat.{◌+◌}
use native.Mathlib.Omega.{arith}
use borrow.Author.Tests.{eq-eqb, ne_eqb}
use Rattle.drawing.specs.Loads.{load_bar}
use Rattle.drawing.proofs.Loads.{high-within, high-more}
use Rattle.say_loads.proofs.Ready.{bar-all}
use Rattle.say_loads.proofs.load_bar.Goals as goal

pub returns-then-load-eq0 : goal.returns-then-load-eq0
unfolding load_bar
returns-then-load-eq0 c = rw (eq-eqb _ _ c.if-load-eq0.true)

pub bar_high-low-requires : goal.bar_high-low-requires
bar_high-low-requires c = (c.requires.some, omega (arith, bar-all _ _ _ _ c.requires c.if-load-eq0.false, c.requires.few))

pub overflow_add-load : goal.overflow_add-load
overflow_add-load c = omega (arith, bar-all _ _ _ _ c.requires c.if-load-eq0.false, c.requires.few)

pub bar_high-top-requires : goal.bar_high-top-requires
bar_high-top-requires c = (c.requires.some, omega (arith, bar-all _ _ _ _ c.requires c.if-load-eq0.false, c.requires.few))

pub overflow_sub-result-2 : goal.overflow_sub-result-2
overflow_sub-result-2 c = let all = bar-all _ _ _ _ c.requires c.if-load-eq0.false in
    omega (arith, c.bar_high-low.ensures, high-within c.args.scale c.args.before c.requires.some (omega (arith, all)))

pub overflow_sub-result-3 : goal.overflow_sub-result-3
overflow_sub-result-3 c = let more = high-more c.args.scale c.args.before (c.args.load + c.args.before) c.requires.some (omega arith) in
    omega (arith, c.bar_high-low.ensures, c.bar_high-top.ensures, more)

pub returns : goal.returns
unfolding load_bar
returns c = rw (ne_eqb _ _ c.if-load-eq0.false, c.bar_high-low.ensures, c.bar_high-top.ensures)
