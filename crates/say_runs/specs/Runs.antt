-- The runs of a row of numbers: "runs joined". A run is as many of one number as stand one after the other; 0 is in no run. Places are counted from 0.
use Rattle.std.specs.Prelude.{ℕ, zero, suc, ◌+◌, Bool, ◌&&◌, not, List, eqb, ltb, length, get_or}
use Rattle.laws.specs.Search.{first}

-- the number before place i; 0 before the first
abbrev pub number_before : List ℕ → ℕ → ℕ
number_before row zero = 0
number_before row (suc i) = get_or row i 0

-- a run starts at place i: the number there is not 0, and not the one before
unfoldable pub starts_run : List ℕ → ℕ → Bool
starts_run row i = not (eqb (get_or row i 0) 0) && not (eqb (number_before row i) (get_or row i 0))

-- the first place past the run that starts at i: there is another number, or none
unfoldable pub run_stop : List ℕ → ℕ → ℕ
run_stop row i = first (λ j. not (eqb (get_or row j 0) (get_or row i 0))) (i + 1) (length row)

-- whether there was a run before place i: some number below it is not 0
unfoldable pub run_before : List ℕ → ℕ → Bool
run_before row i = ltb (first (λ j. not (eqb (get_or row j 0) 0)) 0 (length row)) i
