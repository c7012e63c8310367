-- The last line of the faults of a table. @1 is its value, @a the s of a plural.
use Rattle.std.specs.Prelude.{ℕ, List, [], ◌∷◌}
use Prim.Native.String.{String}

unfoldable pub fault_lines : List String
fault_lines = "not valid: @1 thing@a wrong\n" ∷ []

-- ---- the rows by name

abbrev pub things_row : ℕ
things_row = 0
