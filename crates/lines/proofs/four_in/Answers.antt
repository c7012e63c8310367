-- `lines::four_in` meets its contract: the test, and the bits moved together. Assumes nothing.
use borrow.Author.Tests.{eq-eqb, ne_eqb}
use Rattle.lines.specs.Content.{four_in}
use Rattle.lines.proofs.four_in.Goals as goal

pub returns-then-w-ne3471202379140706348 : goal.returns-then-w-ne3471202379140706348
unfolding four_in
returns-then-w-ne3471202379140706348 c = rw (ne_eqb _ _ c.if-w-ne3471202379140706348.true)

pub returns : goal.returns
unfolding four_in
returns c = rw (eq-eqb _ _ c.if-w-ne3471202379140706348.false)
