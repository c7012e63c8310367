-- Sets of positions as words of 64 bits, as many words as the positions take. A position is in a set as crate `positions` has it: position k is bit k % 64 of
-- word k / 64.
use Rattle.std.specs.Prelude.{Bool, List, ℕ}
use Rattle.laws.specs.Part.{list_of}
use Rattle.positions.specs.Blocked.{blocked_at, word_in}

-- whether position k is in the set
abbrev pub in_set : List ℕ → ℕ → Bool
in_set = blocked_at

-- the first w words of the set of the positions that pass a test
abbrev pub set_in : (ℕ → Bool) → ℕ → List ℕ
set_in p w = list_of (word_in p) w
