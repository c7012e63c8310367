-- `search::hunt` meets its contract: at each head of the loop, what is left of the search is the whole search. Each turn makes a try or goes back a
-- fragment.
-- Assumes nothing.
use mathlib.Core.Path.{refl}
use native.Mathlib.Omega.{arith}
use lib.ListN.{length}
use Rattle.search.proofs.Resume.{stack_set}
use Rattle.search.proofs.Taken.{keeps-none}
use Rattle.search.proofs.Going.{going_start, going-back, going-taken, going-placed, going-word, end-full, end-plan, end-limit}
use Rattle.search.proofs.hunt.Goals as goal

pub loop-d-init : goal.loop-d-init
loop-d-init c = (refl, going_start _ _ _ _ _ _ refl refl (λ _. keeps-none _ _ _ _))

pub returns-then-d-eq0 : goal.returns-then-d-eq0
returns-then-d-eq0 c = let p = c.loop-d in
    let a = c.args in record {
      answer = end-full a.owner.now a.opens.now a.clash.now a.limit p.at p.words p.d p.i p.tries p.invariant.1
          c.loop-d-test.true c.if-i-many.true c.if-d-eq0.true;
      stack = λ k l. absurd (omega arith);
    }

pub loop-d-preserved-then-i-many : goal.loop-d-preserved-then-i-many
loop-d-preserved-then-i-many c = let p = c.loop-d in
    let a = c.args in (
      refl,
      going-back a.owner.now a.opens.now a.clash.now a.limit p.at p.words p.d p.i p.tries p.invariant.1
          c.loop-d-test.true c.if-i-many.true (omega arith),
    )

pub returns-then-tries-limit : goal.returns-then-tries-limit
returns-then-tries-limit c = let p = c.loop-d in
    let a = c.args in record {
      answer = end-limit a.owner.now a.opens.now a.clash.now a.limit p.at p.words p.d p.i p.tries p.invariant.1
          c.loop-d-test.true (omega (arith, p.invariant.1.along)) c.if-tries-limit.true;
      stack = λ k l. absurd (omega arith);
    }

pub loop-d-preserved-then-has_bit : goal.loop-d-preserved-then-has_bit
loop-d-preserved-then-has_bit c = let p = c.loop-d in
    let a = c.args in (
      refl,
      going-taken a.owner.now a.opens.now a.clash.now a.limit p.at p.words p.d p.i p.tries p.invariant.1
          c.requires.distinct
          c.loop-d-test.true (omega arith) c.has_bit.result c.has_bit.ensures (omega arith) c.if-has_bit.true,
    )

pub entered-requires : goal.entered-requires
entered-requires c = let p = c.loop-d in
    let a = c.args in record {
      d_nonzero = (omega arith, omega arith);
      owned = c.requires.owned;
      by_index = λ k l. omega (
        arith,
        stack_set p.at p.d p.i (length a.opens.now) (omega (arith, p.invariant.1.size)) (omega (arith, p.invariant.1.along))
            p.invariant.1.stack k l,
      );
      taken_word = going-word a.owner.now a.opens.now a.clash.now a.limit p.at p.words p.d p.i p.tries p.invariant.1;
    }

pub loop-d-preserved : goal.loop-d-preserved
loop-d-preserved c = let p = c.loop-d in
    let a = c.args in (
      refl,
      rw c.start-i.ensures
          (going-placed a.owner.now a.opens.now a.clash.now a.limit p.at p.words p.d p.i p.tries p.invariant.1
          c.requires.distinct
          c.loop-d-test.true (omega arith) c.has_bit.result
          c.has_bit.ensures (omega arith) (omega arith) c.if-has_bit.false c.entered.result
          c.entered.ensures),
    )

pub returns : goal.returns
returns c = let p = c.loop-d in
    let a = c.args in record {
      answer = end-plan a.owner.now a.opens.now a.clash.now a.limit p.at p.words p.d p.i p.tries p.invariant.1 c.loop-d-test.false;
      stack = λ k l. p.invariant.1.stack k (omega arith);
    }
