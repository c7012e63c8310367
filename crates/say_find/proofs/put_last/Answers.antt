-- `say_find::put_last` meets its contract: the row, and then the other cells of a set. Assumes nothing.
use native.Mathlib.Omega.{arith}
use Rattle.phrases.proofs.Put.{put_both, put-wide}
use Rattle.say_find.proofs.put_last.Goals as goal

pub returns : goal.returns
returns c = put-wide 2500 (omega arith) (put_both _ _ (rw c.last_phrase.ensures at c.put-next.ensures) c.put_others.ensures)
