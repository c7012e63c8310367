-- `say_search::put_tries` meets its contract: what is put is the phrase. Assumes nothing.
use native.Mathlib.Omega.{arith}
use Rattle.phrases.proofs.Put.{put-wide}
use Rattle.say_search.proofs.put_tries.Goals as goal

pub returns : goal.returns
returns c = put-wide 2000 (omega arith) (rw c.tries_phrase.ensures at c.put.ensures)
