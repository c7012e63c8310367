-- `clashcount::counted` meets its contract: before row c, the rows below it are counted. Assumes nothing.
use mathlib.Core.List.{List}
use mathlib.Core.Path.{◌≡◌}
use Prim.Native.Nat.{ℕ, ◌*◌, ◌-◌, ◌≤◌}
use Rattle.laws.specs.Bits.{bit_in}
use Rattle.laws.specs.Sum.{sum, count}
use Rattle.clashcount.proofs.counted.Given as goal

abbrev pub below : List ℕ → ℕ → ℕ
below rows c = count (bit_in rows c) c

abbrev pub invariant-loop-c : goal.invariant-loop-c
invariant-loop-c l = (l.c ≤ 32) × (l.all ≡ sum (below l.rows) l.c) × (l.all ≤ 32 * l.c)

abbrev pub decreases-loop-c : goal.decreases-loop-c
decreases-loop-c l = 32 - l.c
