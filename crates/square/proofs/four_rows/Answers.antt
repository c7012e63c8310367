-- `square::four_rows` meets its contract: a word in four parts. Assumes nothing.
use Rattle.square.proofs.Fours.{four-parts}
use Rattle.square.proofs.four_rows.Goals as goal

pub returns : goal.returns
returns c = let a = c.args in
    four-parts a.rows.now a.k
