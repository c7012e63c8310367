-- `lines::mark_ok` meets its contract: a comma, then 0 or 1. Assumes nothing.
use borrow.Author.Tests.{eq-eqb, ne_eqb}
use Rattle.lines.specs.Content.{mark_ok}
use Rattle.lines.proofs.mark_ok.Goals as goal

pub returns-then-comma-ne-COMMA : goal.returns-then-comma-ne-COMMA
unfolding mark_ok
returns-then-comma-ne-COMMA c = rw (ne_eqb _ _ c.if-comma-ne-COMMA.true)

pub returns-then-x-eq49 : goal.returns-then-x-eq49
unfolding mark_ok
returns-then-x-eq49 c = rw (eq-eqb _ _ c.if-comma-ne-COMMA.false, c.if-x-eq49.true)

pub returns-then-x-eq48 : goal.returns-then-x-eq48
unfolding mark_ok
returns-then-x-eq48 c = rw (eq-eqb _ _ c.if-comma-ne-COMMA.false, c.if-x-eq48.true)

pub returns : goal.returns
unfolding mark_ok
returns c = rw (eq-eqb _ _ c.if-comma-ne-COMMA.false, ne_eqb _ _ c.if-x-eq49.false, ne_eqb _ _ c.if-x-eq48.false)
