-- `say_audit::put_wrong` meets its contract: the first thing wrong without its line's end, and then what follows. Assumes nothing.
use Rattle.phrases.proofs.Put.{put_both}
use Rattle.say_audit.proofs.Over.{put-over, after-some}
use Rattle.say_audit.proofs.put_wrong.Goals as goal

pub returns : goal.returns
returns c = let a = c.args in
    put_both _ _ c.put-start.ensures
    (put-over _ _ c.put_check-end.ensures (rw c.last_byte.ensures.0 at c.put_after.ensures) (after-some a.mended a.unseen))
