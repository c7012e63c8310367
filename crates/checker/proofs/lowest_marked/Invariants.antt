-- `checker::lowest_marked` meets its contract: a search: what is left gives the answer. Assumes nothing.
use Rattle.std.specs.Prelude.{◌≡◌}
use Rattle.laws.specs.Search.{first}
use Rattle.checker.specs.Marks.{mark_set}
use Rattle.checker.proofs.lowest_marked.Given as goal

abbrev pub invariant-loop-p : goal.invariant-loop-p
invariant-loop-p l = first (mark_set l.marks) 0 l.n ≡ first (mark_set l.marks) l.p l.n
