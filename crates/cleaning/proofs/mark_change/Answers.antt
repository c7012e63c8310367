-- `cleaning::mark_change` meets its contract: the sheet begins after the mark, or it has none. Assumes nothing.
use mathlib.Core.Path.{sym, ◌∙◌}
use Rattle.cleaning.specs.Clean.{mark_change}
use Rattle.cleaning.proofs.Kept.{mark-there, mark_not}
use Rattle.cleaning.proofs.mark_change.Goals as goal

pub returns-then-from-eq3 : goal.returns-then-from-eq3
unfolding mark_change
returns-then-from-eq3 c = rw (mark-there _ (sym c.begin-from.ensures.value ∙ c.if-from-eq3.true))

pub returns : goal.returns
unfolding mark_change
returns c = rw (mark_not _ (λ e. c.if-from-eq3.false (c.begin-from.ensures.value ∙ e))) c.none_changed.ensures
