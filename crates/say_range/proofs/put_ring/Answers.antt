-- `say_range::put_ring` meets its contract: the word decides. Assumes nothing.
use mathlib.Core.Path.{sym, ◌∙◌}
use Rattle.phrases.proofs.Put.{put-none}
use Rattle.say_range.proofs.put_ring.Goals as goal

pub returns-then-not-has : goal.returns-then-not-has
returns-then-not-has c = rw (sym c.has.ensures ∙ c.if-not-has.true) (put-none _ _ _)

pub returns : goal.returns
returns c = rw (sym c.has.ensures ∙ c.if-not-has.false) (rw c.cell_middle-middle.ensures at c.put_circle.ensures)
