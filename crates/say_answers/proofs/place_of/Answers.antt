-- `say_answers::place_of` meets its contract: a case for each way out. Assumes nothing.
use borrow.Author.Tests.{eq-eqb, ne_eqb}
use Rattle.say_answers.specs.Said.{place_given}
use Rattle.say_answers.proofs.place_of.Goals as goal

pub returns-then-number-eq4 : goal.returns-then-number-eq4
unfolding place_given
returns-then-number-eq4 c = rw (eq-eqb _ _ c.if-number-eq4.true)

pub returns-then-call-eq-READ_SITE_CALL : goal.returns-then-call-eq-READ_SITE_CALL
unfolding place_given
returns-then-call-eq-READ_SITE_CALL c = rw (ne_eqb _ _ c.if-number-eq4.false, eq-eqb _ _ c.if-call-eq-READ_SITE_CALL.true)

pub returns-then-call-eq-READ_PLAN_CALL : goal.returns-then-call-eq-READ_PLAN_CALL
unfolding place_given
returns-then-call-eq-READ_PLAN_CALL c = rw (
  ne_eqb _ _ c.if-number-eq4.false,
  ne_eqb _ _ c.if-call-eq-READ_SITE_CALL.false,
  eq-eqb _ _ c.if-call-eq-READ_PLAN_CALL.true,
)

pub returns-then-number-eq17 : goal.returns-then-number-eq17
unfolding place_given
returns-then-number-eq17 c = rw (
  ne_eqb _ _ c.if-number-eq4.false,
  ne_eqb _ _ c.if-call-eq-READ_SITE_CALL.false,
  ne_eqb _ _ c.if-call-eq-READ_PLAN_CALL.false,
  eq-eqb _ _ c.if-number-eq17.true,
)

pub returns-then-call-eq-ADMIT_CALL : goal.returns-then-call-eq-ADMIT_CALL
unfolding place_given
returns-then-call-eq-ADMIT_CALL c = rw (
  ne_eqb _ _ c.if-number-eq4.false,
  ne_eqb _ _ c.if-call-eq-READ_SITE_CALL.false,
  ne_eqb _ _ c.if-call-eq-READ_PLAN_CALL.false,
  ne_eqb _ _ c.if-number-eq17.false,
  eq-eqb _ _ c.if-call-eq-ADMIT_CALL.true,
  c.flow_place.ensures,
)

pub returns-then-call-eq-ADMIT_BESIDE_CALL : goal.returns-then-call-eq-ADMIT_BESIDE_CALL
unfolding place_given
returns-then-call-eq-ADMIT_BESIDE_CALL c = rw (
  ne_eqb _ _ c.if-number-eq4.false,
  ne_eqb _ _ c.if-call-eq-READ_SITE_CALL.false,
  ne_eqb _ _ c.if-call-eq-READ_PLAN_CALL.false,
  ne_eqb _ _ c.if-number-eq17.false,
  ne_eqb _ _ c.if-call-eq-ADMIT_CALL.false,
  eq-eqb _ _ c.if-call-eq-ADMIT_BESIDE_CALL.true,
  c.flow_place-then-call-eq-ADMIT_BESIDE_CALL.ensures,
)

pub returns : goal.returns
unfolding place_given
returns c = rw (
  ne_eqb _ _ c.if-number-eq4.false,
  ne_eqb _ _ c.if-call-eq-READ_SITE_CALL.false,
  ne_eqb _ _ c.if-call-eq-READ_PLAN_CALL.false,
  ne_eqb _ _ c.if-number-eq17.false,
  ne_eqb _ _ c.if-call-eq-ADMIT_CALL.false,
  ne_eqb _ _ c.if-call-eq-ADMIT_BESIDE_CALL.false,
  c.record_place.ensures,
)
