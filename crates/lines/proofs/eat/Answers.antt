-- `lines::eat` meets its contract: one byte, past the end, another byte, or there. Assumes nothing.
use native.Mathlib.Omega.{arith}
use Rattle.lines.proofs.Match.{eat-past, eat-other, eat-here}
use Rattle.lines.proofs.eat.Goals as goal

pub returns-then-s-at : goal.returns-then-s-at
returns-then-s-at c = eat-past _ _ _ (omega arith)

pub returns-then-s-at-2 : goal.returns-then-s-at-2
returns-then-s-at-2 c = eat-other _ _ _ (omega arith) c.if-s-at-2.true

pub returns : goal.returns
returns c = eat-here _ _ _ (omega arith) c.if-s-at-2.false
