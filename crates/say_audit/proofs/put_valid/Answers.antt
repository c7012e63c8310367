-- `say_audit::put_valid` meets its contract: what stands before, and then the check's words. Assumes nothing.
use Rattle.phrases.proofs.Put.{put_both}
use Rattle.say_audit.proofs.put_valid.Goals as goal

pub returns : goal.returns
returns c = put_both _ _ c.put-next.ensures c.put_check.ensures
