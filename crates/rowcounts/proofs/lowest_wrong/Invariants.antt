-- `rowcounts::lowest_wrong` meets its contract: a search: what is left gives the answer. Assumes nothing.
use Rattle.std.specs.Prelude.{◌≡◌}
use Rattle.laws.specs.Search.{first}
use Rattle.theory.specs.Greedy.{reserved}
use Rattle.theory.specs.Verdict.{wrong_in, lowest_wrong}
use Rattle.rowcounts.specs.Counts.{load_net}
use Rattle.rowcounts.proofs.lowest_wrong.Given as goal

abbrev pub invariant-loop-i : goal.invariant-loop-i
invariant-loop-i l = lowest_wrong (load_net l.cells l.n l.loads) (reserved l.n l.table) ≡ first
    (wrong_in (load_net l.cells l.n l.loads) (reserved l.n l.table)) l.i l.cells
