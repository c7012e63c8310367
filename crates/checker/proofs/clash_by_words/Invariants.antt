-- `checker::clash_by_words` meets its contract: a search: what is left gives the answer. Assumes nothing.
use mathlib.Core.Path.{◌≡◌}
use mathlib.Core.Bool.{Bool}
use mathlib.Core.List.{List}
use Prim.Native.Nat.{ℕ, ◌≤◌}
use Rattle.laws.specs.Search.{first}
use Rattle.theory.specs.Greedy.{reserved}
use Rattle.theory.specs.Verdict.{lowest_clash}
use Rattle.checker.specs.Marks.{clash_net, clashing}
use Rattle.checker.proofs.clash_by_words.Given as goal

abbrev pub test : List ℕ → ℕ → List ℕ → ℕ → ℕ → Bool
test table n clash cells = clashing (clash_net cells n clash) (reserved n table)

abbrev pub invariant-loop-from : goal.invariant-loop-from
invariant-loop-from l = (l.from ≤ l.n) × (lowest_clash (clash_net l.cells l.n l.clash) (reserved l.n l.table) ≡ first
    (test l.table l.n l.clash l.cells) l.from l.n)
