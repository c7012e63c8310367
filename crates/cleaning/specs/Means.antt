-- How many line ends some bytes have.
use Rattle.std.specs.Prelude.{ℕ, ◌+◌, List, [], ◌∷◌, eqb}
use Rattle.laws.specs.Sum.{bit}

unfoldable pub line_ends : List ℕ → ℕ
line_ends [] = 0
line_ends (b ∷ l) = bit (eqb b 10) + line_ends l
