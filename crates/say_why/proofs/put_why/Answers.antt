-- `say_why::put_why` meets its contract: the answers of the planner and of the heaviest clash are the definition's, and a refused record has no text.
-- Assumes nothing.
use mathlib.Core.Path.{sym, ◌∙◌}
use Rattle.heaviest.proofs.Meaning.{done-is-fine}
use Rattle.phrases.proofs.Put.{put-none}
use Rattle.why.specs.Said.{why_phrases, why_said}
use Rattle.say_why.proofs.put_why.Goals as goal

pub put_all-requires-clause-site_value : goal.put_all-requires-clause-site_value
put_all-requires-clause-site_value c = done-is-fine _ _ _ (sym c.heaviest.ensures ∙ c.in-Ok.is)

pub returns-in-Ok-clause-text : goal.returns-in-Ok-clause-text
unfolding why_phrases why_said
returns-in-Ok-clause-text c = rw (sym c.heaviest.ensures ∙ c.in-Ok.is) (rw c.plan-reply.ensures.answer at c.put_all.ensures)

pub returns-in-Err-clause-text : goal.returns-in-Err-clause-text
unfolding why_phrases why_said
returns-in-Err-clause-text c = rw (sym c.heaviest.ensures ∙ c.in-Err.is) (put-none _ _ _)
