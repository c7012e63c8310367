-- `say_slots::meets_one` meets its contract: no cell below sends there and is in the row, and this one is in it. Assumes nothing.
use mathlib.Core.Path.{◌≡◌}
use mathlib.Core.Bool.{Bool, true, false, ◌&&◌}
use mathlib.Core.List.{List}
use Prim.Native.Nat.{ℕ, ◌-◌, ◌≤◌, ◌<◌}
use Rattle.laws.specs.Bits.{bit_at}
use Rattle.laws.specs.Sum.{any}
use Rattle.theory.specs.Greedy.{reserved}
use Rattle.say_slots.proofs.meets_one.Given as goal

abbrev pub test : List ℕ → (n row k c : ℕ) → Bool
test t n row k c = reserved n t c k && bit_at row c

abbrev pub invariant-loop-c : goal.invariant-loop-c
invariant-loop-c l = (l.c ≤ l.cells) × (any (test l.table l.n l.row l.k) l.c ≡ false) × (l.c < l.cells → bit_at l.row l.c ≡ true)

abbrev pub decreases-loop-c : goal.decreases-loop-c
decreases-loop-c l = l.cells - l.c
