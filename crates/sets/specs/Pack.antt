-- A cell's row of a table as a set.
use Rattle.std.specs.Prelude.{Bool, ◌&&◌, List, ℕ, ltb}
use Rattle.theory.specs.Greedy.{reserved}

-- whether position k is one of n, and reserved in cell i's row of a table of rows of n
abbrev pub in_cell : ℕ → List ℕ → ℕ → ℕ → Bool
in_cell n table i k = ltb k n && reserved n table i k
