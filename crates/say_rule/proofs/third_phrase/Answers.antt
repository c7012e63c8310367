-- `say_rule::third_phrase` meets its contract: the tests that led to each return decide whether the line is said. Assumes nothing.
use mathlib.Core.Path.{sym}
use borrow.Author.Tests.{lt-ltb, le-ltb, eq-eqb, ne_eqb}
use Rattle.site.specs.Reach.{reaches}
use Rattle.say_rule.specs.Said.{by_third}
use Rattle.say_rule.proofs.third_phrase.Goals as goal

pub returns-then-b-a : goal.returns-then-b-a
unfolding by_third reaches
returns-then-b-a c = simp (le-ltb _ _ c.if-b-a.true)

pub returns-then-reach-a-eq1 : goal.returns-then-reach-a-eq1
unfolding by_third reaches
returns-then-reach-a-eq1 c = simp (lt-ltb _ _ c.if-b-a.false, eq-eqb _ _ c.if-reach-a-eq1.true)

pub returns-then-reach-b-eq1 : goal.returns-then-reach-b-eq1
unfolding by_third reaches
returns-then-reach-b-eq1 c = simp (lt-ltb _ _ c.if-b-a.false, ne_eqb _ _ c.if-reach-a-eq1.false, eq-eqb _ _ c.if-reach-b-eq1.true)

pub returns-then-c-ge32 : goal.returns-then-c-ge32
unfolding by_third reaches
returns-then-c-ge32 c = let r = c.third_of-c.ensures in
    simp (
      lt-ltb _ _ c.if-b-a.false,
      ne_eqb _ _ c.if-reach-a-eq1.false,
      ne_eqb _ _ c.if-reach-b-eq1.false,
      sym r,
      le-ltb _ _ c.if-c-ge32.true,
    )

pub returns : goal.returns
unfolding by_third reaches
returns c = let r = c.third_of-c.ensures in
    simp (
      lt-ltb _ _ c.if-b-a.false,
      ne_eqb _ _ c.if-reach-a-eq1.false,
      ne_eqb _ _ c.if-reach-b-eq1.false,
      sym r,
      lt-ltb _ _ c.if-c-ge32.false,
    )
