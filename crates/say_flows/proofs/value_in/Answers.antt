-- `say_flows::value_in` meets its contract: the value, or 0. Assumes nothing.
use mathlib.Core.Path.{sym, ◌∙◌}
use native.Mathlib.Omega.{arith}
use Rattle.say_flows.proofs.value_in.Goals as goal

pub returns-then-has : goal.returns-then-has
returns-then-has c = (rw (sym c.has.ensures ∙ c.if-has.true), omega arith)

pub returns : goal.returns
returns c = (rw (sym c.has.ensures ∙ c.if-has.false), omega arith)
