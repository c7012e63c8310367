-- `say_audit::put_shown` meets its contract: before a byte, those that stand before it are put, each as it is shown. Assumes nothing.
use Rattle.phrases.proofs.Put.{put_both, put-none}
use Rattle.say_audit.specs.Said.{shown_to}
use Rattle.say_audit.proofs.Over.{shown-more}
use Rattle.say_audit.proofs.put_shown.Goals as goal

pub loop-byte-init : goal.loop-byte-init
unfolding shown_to
loop-byte-init c = put-none _ _ _

pub loop-byte-preserved : goal.loop-byte-preserved
loop-byte-preserved c = let a = c.args in
    let i = c.loop-byte.byte-index in
    let e = rw c.shown.ensures at c.put_byte-next.ensures in
    rw (shown-more a.name.now i) (put_both (shown_to a.name.now i) _ c.loop-byte.invariant e)
