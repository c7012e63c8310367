-- `resize::gone_at` meets its contract: what is not blocked is not gone, and else the slot and the channel decide. Assumes nothing.
use mathlib.Core.Path.{sym, ◌∙◌}
use Rattle.resize.specs.Sizes.{gone_at}
use Rattle.resize.proofs.gone_at.Goals as goal

pub returns-then-not-is_blocked : goal.returns-then-not-is_blocked
unfolding gone_at
returns-then-not-is_blocked c = rw (sym c.is_blocked.ensures ∙ c.if-not-is_blocked.true)

pub returns : goal.returns
unfolding gone_at
returns c = rw (sym c.is_blocked.ensures ∙ c.if-not-is_blocked.false, sym c.pair_in.ensures)
