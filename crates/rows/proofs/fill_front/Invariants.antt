-- `rows::fill_front` meets its contract: before each piece, those before it are filled as a whole (`Pieces`). Where the loop is left, no piece more is.
-- Assumes nothing.
use Rattle.std.specs.Prelude.{◌*◌}
use Rattle.rows.proofs.Pieces.{Pieces}
use Rattle.rows.proofs.fill_front.Given as goal

abbrev pub invariant-loop-piece : goal.invariant-loop-piece
invariant-loop-piece l = Pieces l.slots (8 * l.channels) l.load l.fn.row l.piece l.left l.from l.row
