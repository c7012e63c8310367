-- `square::row_in` meets its contract: 16 bits of the word, moved down. Assumes nothing.
use Rattle.square.proofs.Fours.{row-part}
use Rattle.square.proofs.row_in.Goals as goal

pub returns : goal.returns
returns c = row-part c.args.word c.args.i
