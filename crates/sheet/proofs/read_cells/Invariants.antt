-- `sheet::read_cells` meets its contract: the invariant is `Reading`: where the reader stands, that no line before is bad, and what was read. Assumes nothing.
use lib.ListN.{drop}
use Rattle.sheet.proofs.Reading.{Reading}
use Rattle.sheet.proofs.read_cells.Given as goal

abbrev pub invariant-loop-k : goal.invariant-loop-k
invariant-loop-k l = Reading l.s (drop l.at l.s) l.n l.loads l.reach l.p l.k
