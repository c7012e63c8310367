-- `say_refusals::put_refused` meets its contract: the number and the place, and then what the number means. Assumes nothing.
use Rattle.phrases.proofs.Put.{put_both}
use Rattle.say_refusals.specs.Said.{refused_line}
use Rattle.say_refusals.proofs.put_refused.Goals as goal

pub returns : goal.returns
unfolding refused_line
returns c = put_both _ _ c.put_head-middle.ensures c.put_meaning.ensures
