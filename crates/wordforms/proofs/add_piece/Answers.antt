-- `wordforms::add_piece` meets its contract: the bytes that are joined are those that were taken. Assumes nothing.
use native.Mathlib.Omega.{arith}
use Rattle.wordforms.proofs.Rows.{piece-joined}
use Rattle.wordforms.proofs.add_piece.Goals as goal

pub returns : goal.returns
returns c = let a = c.args in
    piece-joined a.n a.i a.at a.m a.table.now a.words.now _ c.take_eight.new.bytes _ (omega arith) c.take_eight.ensures
    c.join_eight.ensures
