-- `say_loads::put_parts` meets its contract: the parts are put one after the other. Assumes nothing.
use native.Mathlib.Omega.{arith}
use Rattle.phrases.proofs.Put.{put_both, put-wide}
use Rattle.say_loads.proofs.put_parts.Goals as goal

pub returns : goal.returns
returns c = put-wide 4000 (omega arith)
    (put_both _ _ (rw c.before_bar.ensures at c.put_bar_part-first.ensures)
    (put_both _ _ (rw c.load_bar.ensures at c.put_bar_part-second.ensures)
    (put_both _ _ (rw c.over_mark.ensures at c.put_bar_part-third.ensures) c.put_bar_part.ensures)))
