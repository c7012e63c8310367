-- What the greedy planner looks at, in the terms of the search.
use Rattle.std.specs.Prelude.{Bool, ◌&&◌, ℕ, ltb}
use Rattle.laws.specs.Sum.{sum, count}
use Rattle.theory.specs.Net.{Net, Reserved, free}

-- "Each takes its idle positions in rising position until its load is met": whether cell i looks at position k, which is open, where fewer of its free
-- positions than its load come before
abbrev pub looks_at : Net → Reserved → ℕ → ℕ → Bool
looks_at s res i k = s.usable k && ltb (count (free s res i) k) (s.load i)

-- the open positions that all cells look at
abbrev pub looks_of : Net → Reserved → ℕ
looks_of s res = sum (λ i. count (looks_at s res i) s.width) s.cells
