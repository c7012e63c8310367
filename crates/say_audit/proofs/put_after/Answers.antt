-- `say_audit::put_after` meets its contract: the changes, and then the remark. Assumes nothing.
use Rattle.phrases.proofs.Put.{put_both}
use Rattle.say_audit.proofs.put_after.Goals as goal

pub returns : goal.returns
returns c = put_both _ _ (rw c.mend_phrase.ensures at c.put-next.ensures) (rw c.remark_phrase.ensures at c.put.ensures)
