-- The recurrence of 000, (18) to (21), which is not best in general: of the sets with one reward it keeps a single one, and a later flow may go with another.
-- Nothing but the desk's example asks for it. A set is a number, and the empty set, whose size is infinite there, is 0.
use Rattle.std.specs.Prelude.{ℕ, zero, suc, ◌+◌, ◌-◌, ◌^◌, not, ◌&&◌, ◌||◌, ltb, leb, eqb}
use Rattle.laws.specs.Choice.{pick}
use Rattle.laws.specs.Sum.{sum}
use Rattle.theory.specs.Net.{Net, demand, room}
pub use Rattle.admitting.specs.Flows.{Flows, total, worth, load_in, beside, idle, laden}

-- the greatest of f 0, .. f (n - 1)
unfoldable pub greatest : (ℕ → ℕ) → ℕ → ℕ
greatest f zero = 0
greatest f (suc n) = pick (ltb (greatest f n) (f n)) (f n) (greatest f n)

-- the size of a set: the greatest demand of a cell
abbrev pub size_of : Net → Flows → ℕ → ℕ
size_of s f x = greatest (demand (laden s f x)) s.cells

-- of two sets the smaller, and the second where the first is empty
abbrev pub smaller : Net → Flows → ℕ → ℕ → ℕ
smaller s f x y = pick (eqb x 0 || ltb (size_of s f y) (size_of s f x)) y x

-- (19) and (20): of the sets of the first j flows, x is kept for the reward r, and y for what is left of r without flow j; so this is kept with flow j
abbrev pub kept_with : Net → Flows → ℕ → ℕ → ℕ → ℕ → ℕ
kept_with s f j r x y = pick ((ltb (f.value j) r && not (eqb y 0)) || eqb (f.value j) r) (smaller s f x (y + 2 ^ j)) x

-- the set that is kept of the first j flows for the reward r; the empty one where there is none
unfoldable pub kept : Net → Flows → ℕ → ℕ → ℕ
kept s f zero r = 0
kept s f (suc j) r = kept_with s f j r (kept s f j r) (kept s f j (r - f.value j))

-- (21): the set kept for the greatest reward up to r whose size is at most N
unfoldable pub kept_below : Net → Flows → ℕ → ℕ
kept_below s f zero = 0
kept_below s f (suc r) =
    pick (not (eqb (kept s f f.count (suc r)) 0) && leb (size_of s f (kept s f f.count (suc r))) (room s)) (kept s f f.count (suc r)) (kept_below s f r)

abbrev pub recurrence : Net → Flows → ℕ
recurrence s f = kept_below s f (sum f.value f.count)
