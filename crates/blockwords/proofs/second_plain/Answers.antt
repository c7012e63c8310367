-- `blockwords::second_plain` meets its contract: where each bit comes from, call by call. Assumes nothing.
use Rattle.blockwords.proofs.Places.{second-plain-is}
use Rattle.blockwords.proofs.second_plain.Goals as goal

pub returns : goal.returns
returns c = second-plain-is _ _ _ _ _ _ c.turned_word.ensures c.turned_word-2.ensures c.high_halves.ensures c.laced.ensures
