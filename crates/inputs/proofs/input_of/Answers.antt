-- `inputs::input_of` meets its contract: the two first lines, and then the records. Assumes nothing.
use mathlib.Core.Path.{sym, ◌∙◌}
use Rattle.inputs.proofs.Cases.{input-range, input-flows, input-house}
use Rattle.inputs.proofs.input_of.Goals as goal

pub returns-then-begins : goal.returns-then-begins
returns-then-begins c = input-range _ (sym c.begins.ensures ∙ c.if-begins.true)

pub returns-then-begins-2 : goal.returns-then-begins-2
returns-then-begins-2 c = input-flows _ (sym c.begins.ensures ∙ c.if-begins.false) (sym c.begins-2.ensures ∙ c.if-begins-2.true)

pub returns : goal.returns
returns c = c.house_file.ensures
    ∙ input-house _ (sym c.begins.ensures ∙ c.if-begins.false) (sym c.begins-2.ensures ∙ c.if-begins-2.false)
