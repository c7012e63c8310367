-- `say_answers::done_row` meets its contract: a case for each way out. Assumes nothing.
use mathlib.Core.Path.{sym}
use borrow.Author.Tests.{eq-eqb, le-ltb, lt-ltb, ne_eqb}
use Rattle.say_answers.specs.Said.{done_says}
use Rattle.say_answers.proofs.done_row.Goals as goal

pub returns-then-call-gt-LAST_CALL : goal.returns-then-call-gt-LAST_CALL
unfolding done_says
returns-then-call-gt-LAST_CALL c = rw (lt-ltb _ _ c.if-call-gt-LAST_CALL.true)

pub returns-then-call-eq-FIND_CALL : goal.returns-then-call-eq-FIND_CALL
unfolding done_says
returns-then-call-eq-FIND_CALL c = rw (le-ltb _ _ c.if-call-gt-LAST_CALL.false, eq-eqb _ _ c.if-call-eq-FIND_CALL.true, c.find_row.ensures)

pub returns-then-form-eq0 : goal.returns-then-form-eq0
unfolding done_says
returns-then-form-eq0 c = rw (
  le-ltb _ _ c.if-call-gt-LAST_CALL.false,
  ne_eqb _ _ c.if-call-eq-FIND_CALL.false,
  sym c.form_of-form.ensures,
  eq-eqb _ _ c.if-form-eq0.true,
)

pub returns : goal.returns
unfolding done_says
returns c = rw (
  le-ltb _ _ c.if-call-gt-LAST_CALL.false,
  ne_eqb _ _ c.if-call-eq-FIND_CALL.false,
  sym c.form_of-form.ensures,
  ne_eqb _ _ c.if-form-eq0.false,
  c.other_row.ensures,
)
