-- `rows::count_idle` meets its contract: before position p, those below p are counted. Assumes nothing.
use mathlib.Core.Path.{◌≡◌}
use mathlib.Core.Bool.{Bool, ◌&&◌}
use mathlib.Core.List.{List}
use Prim.Native.Nat.{ℕ, ◌≤◌}
use lib.ListN.{length, get_or}
use lib.Dec.{eqb}
use Rattle.laws.specs.Sum.{count}
use Rattle.theory.specs.Net.{unblocked}
use Rattle.rows.proofs.count_idle.Given as goal

abbrev pub open_at : List ℕ → ℕ → Bool
open_at x k = unblocked k && eqb (get_or x k 0) 0

abbrev pub invariant-loop-p : goal.invariant-loop-p
invariant-loop-p l = (l.p ≤ length l.stretch) × (l.count ≡ count (open_at l.stretch) l.p)
