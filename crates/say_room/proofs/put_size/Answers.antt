-- `say_room::put_size` meets its contract: the heaviest clash is the definition's, and a refused record has no text. Assumes nothing.
use mathlib.Core.Path.{sym, ◌∙◌}
use Rattle.heaviest.proofs.Meaning.{done-is-fine}
use Rattle.phrases.proofs.Put.{put-none}
use Rattle.say_room.specs.Said.{size_said}
use Rattle.say_room.proofs.put_size.Goals as goal

pub put_sized-requires-clause-site_value : goal.put_sized-requires-clause-site_value
put_sized-requires-clause-site_value c = done-is-fine _ _ _ (sym c.heaviest.ensures ∙ c.in-Ok.is)

pub returns-in-Ok : goal.returns-in-Ok
unfolding size_said
returns-in-Ok c = rw (sym c.heaviest.ensures ∙ c.in-Ok.is) c.put_sized.ensures

pub returns-in-Err : goal.returns-in-Err
unfolding size_said
returns-in-Err c = rw (sym c.heaviest.ensures ∙ c.in-Err.is) (put-none _ _ _)
