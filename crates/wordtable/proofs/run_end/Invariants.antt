-- `wordtable::run_end` meets its contract: a search: what is left gives the answer. Assumes nothing.
use Rattle.std.specs.Prelude.{◌≡◌, ◌+◌}
use Rattle.laws.specs.Search.{first}
use Rattle.wordtable.specs.Tally.{differs}
use Rattle.wordtable.proofs.run_end.Given as goal

abbrev pub invariant-loop-k : goal.invariant-loop-k
invariant-loop-k l = first (differs l.words l.p) (l.p + 1) l.n ≡ first (differs l.words l.p) l.k l.n
