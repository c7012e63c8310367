-- `site::size_ok` meets its contract: each test that failed or held decides its part of the conjunction. Assumes nothing.
use mathlib.Core.Path.{sym, ◌∙◌}
use Rattle.site.specs.Record.{size_ok}
use Rattle.site.proofs.size_ok.Goals as goal

pub returns-then-not-within : goal.returns-then-not-within
unfolding size_ok
returns-then-not-within c = simp (sym c.within.ensures ∙ c.if-not-within.true)

pub returns-then-not-within-2 : goal.returns-then-not-within-2
unfolding size_ok
returns-then-not-within-2 c = simp (
  sym c.within.ensures ∙ c.if-not-within.false,
  sym c.within-2.ensures ∙ c.if-not-within-2.true,
)

pub returns : goal.returns
unfolding size_ok
returns c = simp (
  sym c.within.ensures ∙ c.if-not-within.false,
  sym c.within-2.ensures ∙ c.if-not-within-2.false,
) c.within-3.ensures
