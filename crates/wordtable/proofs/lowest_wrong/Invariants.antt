-- `wordtable::lowest_wrong` meets its contract: a search: what is left gives the answer. Assumes nothing.
use Rattle.std.specs.Prelude.{◌≡◌}
use Rattle.laws.specs.Search.{first}
use Rattle.wordtable.specs.Tally.{miscounted}
use Rattle.wordtable.proofs.lowest_wrong.Given as goal

abbrev pub invariant-loop-i : goal.invariant-loop-i
invariant-loop-i l = first (miscounted l.counts l.loads) 0 l.cells ≡ first (miscounted l.counts l.loads) l.i l.cells
