-- `say_answers::other_row` meets its contract: a case for each way out. Assumes nothing.
use borrow.Author.Tests.{eq-eqb, ne_eqb}
use Rattle.say_answers.specs.Said.{other_says}
use Rattle.say_answers.proofs.other_row.Goals as goal

pub returns-then-call-eq-CLASH_CALL : goal.returns-then-call-eq-CLASH_CALL
unfolding other_says
returns-then-call-eq-CLASH_CALL c = rw (eq-eqb _ _ c.if-call-eq-CLASH_CALL.true)

pub returns-then-call-eq-LOAD_TEST_CALL : goal.returns-then-call-eq-LOAD_TEST_CALL
unfolding other_says
returns-then-call-eq-LOAD_TEST_CALL c = rw (ne_eqb _ _ c.if-call-eq-CLASH_CALL.false, eq-eqb _ _ c.if-call-eq-LOAD_TEST_CALL.true)

pub returns-then-call-eq-CHAIN_CALL : goal.returns-then-call-eq-CHAIN_CALL
unfolding other_says
returns-then-call-eq-CHAIN_CALL c = rw (
  ne_eqb _ _ c.if-call-eq-CLASH_CALL.false,
  ne_eqb _ _ c.if-call-eq-LOAD_TEST_CALL.false,
  eq-eqb _ _ c.if-call-eq-CHAIN_CALL.true,
)

pub returns-then-call-eq-CLASS_CALL : goal.returns-then-call-eq-CLASS_CALL
unfolding other_says
returns-then-call-eq-CLASS_CALL c = rw (
  ne_eqb _ _ c.if-call-eq-CLASH_CALL.false,
  ne_eqb _ _ c.if-call-eq-LOAD_TEST_CALL.false,
  ne_eqb _ _ c.if-call-eq-CHAIN_CALL.false,
  eq-eqb _ _ c.if-call-eq-CLASS_CALL.true,
)

pub returns-then-call-eq-LEAST_CALL : goal.returns-then-call-eq-LEAST_CALL
unfolding other_says
returns-then-call-eq-LEAST_CALL c = rw (
  ne_eqb _ _ c.if-call-eq-CLASH_CALL.false,
  ne_eqb _ _ c.if-call-eq-LOAD_TEST_CALL.false,
  ne_eqb _ _ c.if-call-eq-CHAIN_CALL.false,
  ne_eqb _ _ c.if-call-eq-CLASS_CALL.false,
  eq-eqb _ _ c.if-call-eq-LEAST_CALL.true,
)

pub returns-then-call-eq-SEARCH_CALL : goal.returns-then-call-eq-SEARCH_CALL
unfolding other_says
returns-then-call-eq-SEARCH_CALL c = rw (
  ne_eqb _ _ c.if-call-eq-CLASH_CALL.false,
  ne_eqb _ _ c.if-call-eq-LOAD_TEST_CALL.false,
  ne_eqb _ _ c.if-call-eq-CHAIN_CALL.false,
  ne_eqb _ _ c.if-call-eq-CLASS_CALL.false,
  ne_eqb _ _ c.if-call-eq-LEAST_CALL.false,
  eq-eqb _ _ c.if-call-eq-SEARCH_CALL.true,
  c.search_row.ensures,
)

pub returns-then-call-eq-OVER_FULL_CALL : goal.returns-then-call-eq-OVER_FULL_CALL
unfolding other_says
returns-then-call-eq-OVER_FULL_CALL c = rw (
  ne_eqb _ _ c.if-call-eq-CLASH_CALL.false,
  ne_eqb _ _ c.if-call-eq-LOAD_TEST_CALL.false,
  ne_eqb _ _ c.if-call-eq-CHAIN_CALL.false,
  ne_eqb _ _ c.if-call-eq-CLASS_CALL.false,
  ne_eqb _ _ c.if-call-eq-LEAST_CALL.false,
  ne_eqb _ _ c.if-call-eq-SEARCH_CALL.false,
  eq-eqb _ _ c.if-call-eq-OVER_FULL_CALL.true,
)

pub returns-then-call-eq-MEND_CALL : goal.returns-then-call-eq-MEND_CALL
unfolding other_says
returns-then-call-eq-MEND_CALL c = rw (
  ne_eqb _ _ c.if-call-eq-CLASH_CALL.false,
  ne_eqb _ _ c.if-call-eq-LOAD_TEST_CALL.false,
  ne_eqb _ _ c.if-call-eq-CHAIN_CALL.false,
  ne_eqb _ _ c.if-call-eq-CLASS_CALL.false,
  ne_eqb _ _ c.if-call-eq-LEAST_CALL.false,
  ne_eqb _ _ c.if-call-eq-SEARCH_CALL.false,
  ne_eqb _ _ c.if-call-eq-OVER_FULL_CALL.false,
  eq-eqb _ _ c.if-call-eq-MEND_CALL.true,
)

pub returns : goal.returns
unfolding other_says
returns c = rw (
  ne_eqb _ _ c.if-call-eq-CLASH_CALL.false,
  ne_eqb _ _ c.if-call-eq-LOAD_TEST_CALL.false,
  ne_eqb _ _ c.if-call-eq-CHAIN_CALL.false,
  ne_eqb _ _ c.if-call-eq-CLASS_CALL.false,
  ne_eqb _ _ c.if-call-eq-LEAST_CALL.false,
  ne_eqb _ _ c.if-call-eq-SEARCH_CALL.false,
  ne_eqb _ _ c.if-call-eq-OVER_FULL_CALL.false,
  ne_eqb _ _ c.if-call-eq-MEND_CALL.false,
)
