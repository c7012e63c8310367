-- `escaping::is_three` meets its contract: a case for each way out. Assumes nothing.
use mathlib.Core.Path.{sym, ◌∙◌}
use Rattle.escaping.specs.Letters.{is_three}
use Rattle.escaping.proofs.is_three.Goals as goal

pub returns-then-not-is_between : goal.returns-then-not-is_between
unfolding is_three
returns-then-not-is_between c = rw (sym c.is_between.ensures ∙ c.if-not-is_between.true)

pub returns-then-is_second : goal.returns-then-is_second
unfolding is_three
returns-then-is_second c = rw (sym c.is_between.ensures ∙ c.if-not-is_between.false, sym c.is_second.ensures ∙ c.if-is_second.true)
    c.is_third.ensures

pub returns : goal.returns
unfolding is_three
returns c = rw (sym c.is_between.ensures ∙ c.if-not-is_between.false, sym c.is_second.ensures ∙ c.if-is_second.false)
