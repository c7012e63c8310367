-- `cleaning::begin` meets its contract: the mark is eaten, or it is not there. Assumes nothing.
use native.Mathlib.Omega.{arith}
use Rattle.cleaning.proofs.Kept.{begin-mark, begin-none}
use Rattle.cleaning.proofs.begin.Goals as goal

pub returns-then-at-eq3 : goal.returns-then-at-eq3
returns-then-at-eq3 c = record { value = begin-mark _ _ c.eat_text-at.ensures c.if-at-eq3.true; upper_bound = omega arith }

pub returns : goal.returns
returns c = record { value = begin-none _ _ c.eat_text-at.ensures c.if-at-eq3.false; upper_bound = omega arith }
