-- W10's second call: it "carries a new-numbered table's rows byte for byte into another lent table in old numbers".
use Rattle.std.specs.Prelude.{List, ℕ, zero, suc, ◌*◌}
use Rattle.laws.specs.Part.{part, put}

-- the table `to` with the rows of its first m cells taken from `from`, each w bytes: row i from row `new i`
unfoldable pub carried : (ℕ → ℕ) → ℕ → List ℕ → List ℕ → ℕ → List ℕ
carried new w from to zero = to
carried new w from to (suc i) = put (i * w) w (part (new i * w) w from) (carried new w from to i)
