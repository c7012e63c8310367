-- The loads of the cells of a word.
use Rattle.std.specs.Prelude.{ℕ, List, get_or}
use Rattle.laws.specs.Bits.{bit_at}
use Rattle.laws.specs.Choice.{pick}
use Rattle.laws.specs.Sum.{sum}

-- of those below n
abbrev pub loads_below : List ℕ → ℕ → ℕ → ℕ
loads_below loads word n = sum (λ j. pick (bit_at word j) (get_or loads j 0) 0) n

-- of all
abbrev pub loads_in : List ℕ → ℕ → ℕ
loads_in loads word = loads_below loads word 32
