-- `checker::clash_by_blocks` meets its contract: before each turn no position below `from` has a clash. Assumes nothing.
use mathlib.Core.Path.{◌≡◌}
use mathlib.Core.Bool.{Bool, false}
use mathlib.Core.List.{List}
use Prim.Native.Nat.{ℕ, ◌≤◌, ◌<◌}
use Rattle.theory.specs.Greedy.{reserved}
use Rattle.checker.specs.Marks.{clash_net, clashing}
use Rattle.checker.proofs.clash_by_blocks.Given as goal

abbrev pub test : List ℕ → ℕ → List ℕ → ℕ → ℕ → Bool
test table n clash cells = clashing (clash_net cells n clash) (reserved n table)

abbrev pub invariant-loop-from : goal.invariant-loop-from
invariant-loop-from l = (l.from ≤ l.n) × ((j : ℕ) → j < l.from → test l.table l.n l.clash l.cells j ≡ false)
