-- What the search's functions are given, in the terms of the definition.
use Rattle.std.specs.Prelude.{◌≡◌, Bool, ◌&&◌, List, [], ◌∷◌, ℕ, zero, suc, ◌+◌, ◌-◌, ◌<◌, ltb, eqb, length, get_or}
use Rattle.laws.specs.Bits.{bit_at, bit_in}
use Rattle.laws.specs.Choice.{pick}
use Rattle.tries.specs.Search.{Spot, spot_at, taken_by, Limited, ended, limit_met, plan_found, none_exists}
use Rattle.search.specs.declared.HuntEnd.{HuntEnd}
use Rattle.search.specs.declared.HuntEnd.TheVariants.{Plan, Full, Limit}

-- the first k fragments, the last first: fragment k is of cell owner k, and stands at the open position of index at k
unfoldable pub placed_of : List ℕ → List ℕ → List ℕ → ℕ → List Spot
placed_of owner opens at zero = []
placed_of owner opens at (suc k) = spot_at (get_or owner k 0) (get_or opens (get_or at k 0) 0) ∷ placed_of owner opens at k

-- the same, by the index alone
unfoldable pub stack_of : List ℕ → List ℕ → ℕ → List Spot
stack_of owner at zero = []
stack_of owner at (suc k) = spot_at (get_or owner k 0) (get_or at k 0) ∷ stack_of owner at k

-- whether the first d fragments keep cell c from the open position of index i
abbrev pub keeps : (ℕ → ℕ → Bool) → List ℕ → List ℕ → ℕ → ℕ → ℕ → Bool
keeps clash owner at d c i = taken_by clash (stack_of owner at d) c i

-- w is the word of the open positions from which the fragments before it keep fragment d
abbrev pub TakenWord : List ℕ → List ℕ → List ℕ → ℕ → ℕ → Type 0
TakenWord rows owner at d w = d < length owner → (i : ℕ) → bit_at w i ≡ keeps (bit_in rows) owner at d (get_or owner d 0) i

-- the fragments are of cells
abbrev pub Owned : List ℕ → Type 0
Owned owner = (k : ℕ) → get_or owner k 0 < 32

-- no open position is listed twice
abbrev pub Distinct : List ℕ → Type 0
Distinct opens = (a b : ℕ) → a < length opens → b < length opens → get_or opens a 0 ≡ get_or opens b 0 → a ≡ b

-- where fragment d starts to look, when the one before it stands at index i: past it within a cell
unfoldable pub start_of : List ℕ → ℕ → ℕ → ℕ
start_of owner d i = pick (ltb d (length owner) && eqb (get_or owner d 0) (get_or owner (d - 1) 0)) (i + 1) 0

-- the answer that an end and the stack stand for
abbrev pub limited_by : List Spot → HuntEnd → Limited
limited_by qs (Plan n) = ended (plan_found qs n)
limited_by qs (Full n) = ended (none_exists n)
limited_by qs Limit = limit_met

-- how many fragments stand on the stack at an end: all n of a plan
abbrev pub height_of : ℕ → HuntEnd → ℕ
height_of n (Plan m) = n
height_of n (Full m) = 0
height_of n Limit = 0
