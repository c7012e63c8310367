-- What the arrays of the search stand for: what each flow adds to the demand of each cell, how much room each cell has, and where a search stands.
-- No answer is defined here.
use Rattle.std.specs.Prelude.{ℕ, ◌+◌, ◌-◌, ◌*◌, ◌/◌, ◌%◌, ◌^◌, ◌≤◌, ◌<◌, ◌≡◌, Bool, true, false, ◌&&◌, ◌||◌, not, ◌⊎◌, List, ltb, eqb, get_or}
use Rattle.laws.specs.Bits.{bit_at, bit_in}
use Rattle.laws.specs.Choice.{pick}
use Rattle.laws.specs.Sum.{sum, any}
use Rattle.theory.specs.Net.{Net, everyone, Class, room, demand}
use Rattle.admitting.specs.Best.{Flows, total, worth, best_of}

-- the flows that three arrays state
abbrev pub flows_in : List ℕ → List ℕ → List ℕ → ℕ → Flows
flows_in cell share value n = record { count = n; cell = λ k. get_or cell k 0; share = λ k. get_or share k 0; value = λ k. get_or value k 0 }

-- whether the load of cell c counts in the demand of cell i: "its load plus the loads of its lower-numbered clashing cells"
abbrev pub counts : (ℕ → ℕ → Bool) → ℕ → ℕ → Bool
counts clash c i = eqb c i || (ltb c i && clash c i)

-- what a flow in cell c adds to the demand of cell i
abbrev pub weighed : (ℕ → ℕ → Bool) → ℕ → ℕ → ℕ → ℕ
weighed clash c share i = pick (counts clash c i) share 0

-- what flow k adds to the demand of cell i
abbrev pub weight_at : Net → Flows → ℕ → ℕ → ℕ
weight_at s f i k = weighed s.clash (f.cell k) (f.share k) i

-- the same for the flows of the arrays: what flow k adds in cell i
abbrev pub added_in : List ℕ → List ℕ → List ℕ → ℕ → ℕ → ℕ
added_in rows cell share k i = weighed (bit_in rows) (get_or cell k 0) (get_or share k 0) i

-- and by the place in a table that has 32 numbers to a flow
abbrev pub weighed_at : List ℕ → List ℕ → List ℕ → ℕ → ℕ
weighed_at rows cell share m = added_in rows cell share (m / 32) (m % 32)

-- what flow k adds in cell i, read from that table
abbrev pub entry : List ℕ → ℕ → ℕ → ℕ
entry weights i k = get_or weights (k * 32 + i) 0

-- the value of a set of the 16 flows
abbrev pub value_in : List ℕ → ℕ → ℕ
value_in values x = total (λ k. get_or values k 0) 16 x

-- whether the demands of a set all fit, each in the room of its cell
unfoldable pub room_for : List ℕ → List ℕ → ℕ → Bool
room_for weights rooms x = not (any (λ i. ltb (get_or rooms i 0) (total (entry weights i) 16 x)) 32)

-- what the flows of x add to the demand of cell i
abbrev pub demand_in : List ℕ → List ℕ → List ℕ → ℕ → ℕ → ℕ → ℕ
demand_in rows cell share n x i = total (λ k. added_in rows cell share k i) n x

-- whether a set of the first n flows fits the room of each cell
unfoldable pub fits_in : List ℕ → List ℕ → List ℕ → List ℕ → ℕ → ℕ → Bool
fits_in rooms rows cell share n x = not (any (λ i. ltb (get_or rooms i 0) (demand_in rows cell share n x i)) 32)

-- the best of the sets that fit, by a plain search over all sets: for a problem that the arrays state, `best_beside` (proofs/Problem.antt)
unfoldable pub best_in : List ℕ → List ℕ → List ℕ → List ℕ → List ℕ → ℕ → ℕ
best_in rooms rows cell share value n = best_of (fits_in rooms rows cell share n) (worth (flows_in cell share value n)) (2 ^ n) 0 0

-- The arrays state this problem: what its loads leave of its room in each cell, its clashes, of which none is with a spare cell, and cells that are its own.
-- And the problem is in the class, so that a cell that is not loaded is over only where a loaded one is.
pub record Stands (s : Net) (rooms rows cell : List ℕ) : Type 0 where
  pub rooms_are : (i : ℕ) → i < s.cells → get_or rooms i 0 + demand s i ≡ room s
  pub clash_is : bit_in rows ≡ s.clash
  pub none_past : (a i : ℕ) → a < s.cells → s.cells ≤ i → i < 32 → s.clash a i ≡ false
  pub few_cells : s.cells ≤ 32
  pub inside : (k : ℕ) → k < 16 → get_or cell k 0 < s.cells
  pub class : Class s everyone

-- The score of a set of the 16 flows: its value, and below it what its number leaves of 65,535. Of two sets the better has the greater score.
abbrev pub score_in : List ℕ → ℕ → ℕ
score_in values x = value_in values x * 65536 + (65535 - x)

-- the set that has this score
abbrev pub scored_set : ℕ → ℕ
scored_set score = 65535 - score % 65536

-- the first n places of an order have the first n flows, each once
pub record Ordered (order : List ℕ) (n : ℕ) : Type 0 where
  pub inside : (e : ℕ) → e < n → get_or order e 0 < n
  pub onto : (k : ℕ) → k < n → (e : ℕ) × (e < n) × (get_or order e 0 ≡ k)
  pub apart : (d e : ℕ) → d < n → e < n → get_or order d 0 ≡ get_or order e 0 → d ≡ e

-- what the first k flows of an order are worth together
abbrev pub rest_in : List ℕ → List ℕ → ℕ → ℕ
rest_in order values k = sum (λ e. get_or values (get_or order e 0) 0) k

-- z has the flows of x, and besides only some of the first k flows of the order
pub record InPart (order : List ℕ) (k x z : ℕ) : Type 0 where
  pub size : z < 65536
  pub has : (j : ℕ) → bit_at x j ≡ true → bit_at z j ≡ true
  pub only : (j : ℕ) → bit_at z j ≡ true → (bit_at x j ≡ true) ⊎ ((e : ℕ) × (e < k) × (get_or order e 0 ≡ j))

-- what a set takes in each cell is no more than its room
abbrev pub Fits : (ℕ → ℕ) → List ℕ → ℕ → Type 0
Fits room weights z = (i : ℕ) → i < 32 → total (entry weights i) 16 z ≤ room i

-- the room of cell i, where so much is left of it beside the flows of x
abbrev pub whole_room : List ℕ → List ℕ → ℕ → ℕ → ℕ
whole_room left weights x i = get_or left i 0 + total (entry weights i) 16 x

-- Where a search stands: the first k flows of the order are still to come, and come to `rest` together; none of them is in the set of this score.
pub record Ready (k score rest : ℕ) (order values : List ℕ) : Type 0 where
  pub flows : k ≤ 16
  pub score_is : score ≡ score_in values (scored_set score)
  pub rest_is : rest ≡ rest_in order values k
  pub small : score + rest * 65536 ≤ 68719476735
  pub inside : (e : ℕ) → e < k → get_or order e 0 < 16
  pub apart : (d e : ℕ) → d < k → e < k → get_or order d 0 ≡ get_or order e 0 → d ≡ e
  pub fresh : (e : ℕ) → e < k → bit_at (scored_set score) (get_or order e 0) ≡ false

-- What a search finds: `best`, or the score of a set of its part that fits; and no such set has a greater one, nor has `best`.
pub record Chosen (order weights values : List ℕ) (room : ℕ → ℕ) (k x best r : ℕ) : Type 0 where
  pub one_of_holds : (r ≡ best) ⊎ ((z : ℕ) × (InPart order k x z) × (Fits room weights z) × (r ≡ score_in values z))
  pub above_best : best ≤ r
  pub above : (z : ℕ) → InPart order k x z → Fits room weights z → score_in values z ≤ r
