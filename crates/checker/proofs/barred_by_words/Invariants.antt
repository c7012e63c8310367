-- `checker::barred_by_words` meets its contract: a search, a word at a time: what is left gives the answer. Assumes nothing.
use mathlib.Core.Path.{◌≡◌}
use Prim.Native.Nat.{◌%◌, ◌≤◌}
use Rattle.laws.specs.Search.{first}
use Rattle.theory.specs.Greedy.{reserved}
use Rattle.theory.specs.Verdict.{barred_at}
use Rattle.checker.specs.Marks.{bar_net}
use Rattle.checker.proofs.barred_by_words.Given as goal

abbrev pub invariant-loop-at : goal.invariant-loop-at
invariant-loop-at l = (l.at ≤ l.n) × (l.at % 64 ≡ 0)
    × (first (barred_at (bar_net l.cells l.n l.blocked) (reserved l.n l.table)) l.from l.n
    ≡ first (barred_at (bar_net l.cells l.n l.blocked) (reserved l.n l.table)) l.at l.n)
