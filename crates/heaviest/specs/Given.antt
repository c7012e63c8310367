-- "Numbers given back": the number of each case of the answer and the values that come with it. A verdict is done, 0.
use Rattle.std.specs.Prelude.{ℕ, [], ◌∷◌, Result, Ok, Err}
use Rattle.site.specs.Given.{Given, fault_given}
use Rattle.site.specs.declared.Fault.{Fault}

-- the load of the heaviest set, and its word, with the bit of weight 2 ^ (i - 1) for cell i; the record's 1, 24, 2, 3 and 20
abbrev pub heaviest_given : Result (ℕ × ℕ) Fault → Given
heaviest_given (Ok (load, cells)) = record { number = 0; values = load ∷ cells ∷ [] }
heaviest_given (Err f) = fault_given f
