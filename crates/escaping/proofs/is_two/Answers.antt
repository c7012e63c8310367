-- `escaping::is_two` meets its contract: a case for each way out. Assumes nothing.
use mathlib.Core.Path.{sym, ◌∙◌}
use Rattle.escaping.specs.Letters.{is_two}
use Rattle.escaping.proofs.is_two.Goals as goal

pub returns-then-is_between : goal.returns-then-is_between
unfolding is_two
returns-then-is_between c = rw (sym c.is_between.ensures ∙ c.if-is_between.true) c.is_second.ensures

pub returns : goal.returns
unfolding is_two
returns c = rw (sym c.is_between.ensures ∙ c.if-is_between.false)
