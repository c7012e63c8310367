-- `search::list_fragments` meets its contract. What is listed, and what is left to list, are the fragments. Assumes nothing.
use Rattle.std.specs.Prelude.{◌-◌, get_or}
use Rattle.tries.specs.Search.{fragments_from}
use Rattle.search.proofs.Gather.{Filling}
use Rattle.search.proofs.list_fragments.Given as goal

abbrev pub invariant-loop-i : goal.invariant-loop-i
invariant-loop-i l = Filling 24 (fragments_from (λ j. get_or l.loads j 0) 0 l.cells) l.count l.owner
    (fragments_from (λ j. get_or l.loads j 0) l.i (l.cells - l.i))
