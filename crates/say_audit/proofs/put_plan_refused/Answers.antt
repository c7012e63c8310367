-- `say_audit::put_plan_refused` meets its contract: what stands before, and then the refusal. Assumes nothing.
use Rattle.phrases.proofs.Put.{put_both}
use Rattle.say_audit.proofs.put_plan_refused.Goals as goal

pub returns : goal.returns
returns c = put_both _ _ c.put-next.ensures c.put_read.ensures
