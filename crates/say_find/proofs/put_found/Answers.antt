-- `say_find::put_found` meets its contract: the last word, what is said beside it, and a refusal. Assumes nothing.
use native.Mathlib.Omega.{arith}
use Rattle.phrases.proofs.Put.{put_both, put-wide}
use Rattle.say_find.proofs.put_found.Goals as goal

pub returns : goal.returns
returns c = put-wide 6000 (omega arith)
    (put_both _ _ c.put_last-second.ensures (put_both _ _ (rw c.beside_phrase.ensures at c.put_line-third.ensures) c.put_refusal.ensures))
