-- `wordtable::first_barred` meets its contract: a search: what is left gives the answer. Assumes nothing.
use Rattle.std.specs.Prelude.{◌≡◌}
use Rattle.laws.specs.Search.{first}
use Rattle.theory.specs.Verdict.{barred_at, lowest_barred}
use Rattle.checker.specs.Marks.{bar_net}
use Rattle.wordforms.specs.Words.{sends_at}
use Rattle.wordtable.proofs.first_barred.Given as goal

abbrev pub invariant-loop-p : goal.invariant-loop-p
invariant-loop-p l = lowest_barred (bar_net l.cells l.n l.blocked) (sends_at l.words)
    ≡ first (barred_at (bar_net l.cells l.n l.blocked) (sends_at l.words)) l.p l.n
