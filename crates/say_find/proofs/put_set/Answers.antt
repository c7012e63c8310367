-- `say_find::put_set` meets its contract: the cells, and then what closes them. Assumes nothing.
use native.Mathlib.Omega.{arith}
use Rattle.phrases.proofs.Put.{put_both, put-wide}
use Rattle.say_find.proofs.put_set.Goals as goal

pub returns : goal.returns
returns c = put-wide 2000 (omega arith) (put_both _ _ c.put_later-next.ensures c.put.ensures)
