-- `escaping::letter_here` meets its contract: a case for each way out. Assumes nothing.
use mathlib.Core.Path.{sym}
use borrow.Author.Tests.{eq-eqb, ne_eqb}
use Rattle.escaping.proofs.letter_here.Goals as goal

pub returns-then-left-eq0 : goal.returns-then-left-eq0
returns-then-left-eq0 c = rw (
  eq-eqb _ 0 c.if-left-eq0.true,
  sym c.byte_at.ensures,
  sym c.byte_at-then-left-eq0.ensures,
  sym c.byte_at-then-left-eq0-2.ensures,
  sym c.byte_at-then-left-eq0-3.ensures,
) c.letter_size.ensures

pub returns : goal.returns
returns c = rw (ne_eqb _ 0 c.if-left-eq0.false)
