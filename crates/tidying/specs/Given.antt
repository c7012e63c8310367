-- "Numbers given back": for each case of what tidying answers, the documents' number and the values that come with it, in their order.
use Rattle.std.specs.Prelude.{ℕ, Bool, true, [], ◌∷◌, ltb, Result, Ok, Err}
use Rattle.site.specs.Given.{Given}
use Rattle.tidying.specs.declared.TidyError.{TidyError}
use Rattle.tidying.specs.declared.TidyError.TheVariants.{OutShort, BadLine}

-- 0 done, with the bytes written; 13, "lent output too short for the file", with the "bytes needed"; 17 with the first line that cannot be tidied
abbrev pub tidy_given : Result ℕ TidyError → Given
tidy_given (Ok bytes) = record { number = 0; values = bytes ∷ [] }
tidy_given (Err (OutShort bytes)) = record { number = 13; values = bytes ∷ [] }
tidy_given (Err (BadLine line)) = record { number = 17; values = line ∷ [] }

-- what a call can answer: lines are numbered from 1
abbrev pub tidy_proper : Result ℕ TidyError → Bool
tidy_proper (Ok bytes) = true
tidy_proper (Err (OutShort bytes)) = true
tidy_proper (Err (BadLine line)) = ltb 0 line
