-- `checker::lowest_barred` meets its contract: a search, a block at a time: what is left gives the answer. Assumes nothing.
use mathlib.Core.Path.{◌≡◌}
use mathlib.Core.Bool.{Bool}
use mathlib.Core.List.{List}
use Prim.Native.Nat.{ℕ, ◌%◌, ◌≤◌}
use Rattle.laws.specs.Search.{first}
use Rattle.theory.specs.Greedy.{reserved}
use Rattle.theory.specs.Verdict.{barred_at, lowest_barred}
use Rattle.checker.specs.Marks.{bar_net}
use Rattle.checker.proofs.lowest_barred.Given as goal

abbrev pub test : List ℕ → ℕ → List ℕ → ℕ → ℕ → Bool
test table n blocked cells = barred_at (bar_net cells n blocked) (reserved n table)

abbrev pub invariant-loop-from : goal.invariant-loop-from
invariant-loop-from l = (l.from ≤ l.blocks) × (l.from % 128 ≡ 0)
    × (lowest_barred (bar_net l.cells l.n l.blocked) (reserved l.n l.table) ≡ first (test l.table l.n l.blocked l.cells) l.from l.n)
