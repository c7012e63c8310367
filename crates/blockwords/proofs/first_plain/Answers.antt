-- `blockwords::first_plain` meets its contract: where each bit comes from, call by call. Assumes nothing.
use Rattle.blockwords.proofs.Places.{first-plain-is}
use Rattle.blockwords.proofs.first_plain.Goals as goal

pub returns : goal.returns
returns c = first-plain-is _ _ _ _ _ _ c.turned_word.ensures c.turned_word-2.ensures c.low_halves.ensures c.laced.ensures
