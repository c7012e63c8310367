-- What the planner's loops ask: the rows that stand.
use Rattle.std.specs.Prelude.{ℕ, ◌*◌, ◌≡◌, List, take}
use Rattle.theory.specs.Net.{Net}
use Rattle.theory.specs.Greedy.{row, run, planned}

-- the greedy rows of the first i cells stand at the start of t
abbrev pub PlannedTo : Net → ℕ → List ℕ → Type 0
PlannedTo s i t = run s (row s) i ≡ planned (take (i * s.width) t)
