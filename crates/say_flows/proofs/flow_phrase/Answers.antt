-- `say_flows::flow_phrase` meets its contract: the row of the flow, by its bit. Assumes nothing.
use mathlib.Core.Path.{sym, ◌∙◌}
use Rattle.say_flows.proofs.flow_phrase.Goals as goal

pub returns-then-has : goal.returns-then-has
returns-then-has c = rw (sym c.has.ensures ∙ c.if-has.true, ← c.share_at-share.ensures)

pub returns : goal.returns
returns c = rw (sym c.has.ensures ∙ c.if-has.false, ← c.share_at-share.ensures)
