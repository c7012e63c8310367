-- `cleaning::take_next` meets its contract: where a field begins that can be taken at once it is, and else a byte. Assumes nothing.
use mathlib.Core.Path.{sym, ◌∙◌}
use Rattle.cleaning.proofs.Fields.{field-taken}
use Rattle.cleaning.proofs.take_next.Goals as goal

pub returns : goal.returns
returns c = field-taken _ _ _ _ c.in-Some.field c.field_step-step.result c.requires.1 (sym c.next_field.ensures ∙ c.in-Some.is) c.field_step-step.ensures
