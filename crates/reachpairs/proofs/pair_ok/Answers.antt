-- `reachpairs::pair_ok-law` meets its contract: each test that failed or held decides its part of the conjunction. Assumes nothing.
use mathlib.Core.Path.{sym, ◌∙◌}
use Rattle.reachpairs.specs.Pairs.{pair_ok}
use Rattle.reachpairs.proofs.pair_ok.Goals as goal

pub returns-then-not-within : goal.returns-then-not-within
unfolding pair_ok
returns-then-not-within c = simp (sym c.within.ensures ∙ c.if-not-within.true)

pub returns-then-not-within-2 : goal.returns-then-not-within-2
unfolding pair_ok
returns-then-not-within-2 c = simp (
  sym c.within.ensures ∙ c.if-not-within.false,
  sym c.within-2.ensures ∙ c.if-not-within-2.true,
)

pub returns : goal.returns
unfolding pair_ok
returns c = simp (
  sym c.within.ensures ∙ c.if-not-within.false,
  sym c.within-2.ensures ∙ c.if-not-within-2.false,
)
