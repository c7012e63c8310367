-- `inputs::put_other` meets its contract: what it is, and then what was asked for. Assumes nothing.
use Rattle.phrases.proofs.Put.{put_both}
use Rattle.inputs.proofs.put_other.Goals as goal

pub returns : goal.returns
returns c = put_both _ _ (rw c.found_phrase.ensures at c.put-middle.ensures) (rw c.asked_phrase.ensures at c.put.ensures)
