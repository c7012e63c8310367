-- The cells of a set as a field: one cell more is one part more, by the definition. Assumes nothing.
use Prim.Native.Nat.{ℕ, ◌+◌}
use mathlib.Core.Path.{◌≡◌, ap}
use mathlib.Core.List.{◌++◌}
use native.Mathlib.Numerals.{add-one}
use Rattle.phrases.specs.Phrases.{phrase}
use Rattle.say_csv.specs.Lines.{csv_lines}
use Rattle.say_csv.specs.Fields.{cell_field, cells_field}

pub cells-more : (x j : ℕ) → cells_field x (j + 1) ≡ cells_field x j ++ phrase csv_lines (cell_field x j)
unfolding cells_field
cells-more x j = ap (cells_field x) (add-one j)
