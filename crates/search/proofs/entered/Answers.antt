-- `search::entered` meets its contract: the word before, within a cell; the word that is gathered, at a new cell. Assumes nothing.
use Rattle.search.proofs.Taken.{marks-same}
use Rattle.search.proofs.entered.Goals as goal

pub returns-then-c-owner : goal.returns-then-c-owner
returns-then-c-owner c = let a = c.args in
    marks-same a.clash.now a.owner.now a.at.now a.d a.before c.requires.d_nonzero.0 c.if-c-owner.true c.requires.taken_word
