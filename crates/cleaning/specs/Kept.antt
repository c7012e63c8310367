-- What the code leaves in lent memory that may be too small: as much of the text as there is room for.
use Rattle.std.specs.Prelude.{ℕ, ◌≤◌, ◌≡◌, List, ◌++◌, length, take, drop}

-- `at` bytes stood there; now `next` bytes do: those, and the text, as far as there is room. Nothing past them is changed
pub record Kept (before : List ℕ) (at : ℕ) (text : List ℕ) (after : List ℕ) (next : ℕ) : Type 0 where
  pub long : length after ≡ length before
  pub grows : at ≤ next
  pub inside : next ≤ length before
  pub kept : take next after ≡ take (length before) (take at before ++ text)
  pub rest : drop next after ≡ drop next before
