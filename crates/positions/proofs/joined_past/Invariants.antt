-- `positions::joined_past` meets its contract: before word j, what is joined is 0 only where no position from n to that word is in the set. Assumes nothing.
use mathlib.Core.Path.{◌≡◌}
use mathlib.Core.Bool.{false}
use Prim.Native.Nat.{ℕ, ◌*◌, ◌-◌, ◌≤◌, ◌<◌}
use Rattle.positions.specs.Blocked.{blocked_at}
use Rattle.positions.proofs.joined_past.Given as goal

abbrev pub invariant-loop-j : goal.invariant-loop-j
invariant-loop-j l = (l.j ≤ 32) × (l.all ≡ 0 → (k : ℕ) → l.n ≤ k → k < 64 * l.j → blocked_at l.set k ≡ false)

abbrev pub decreases-loop-j : goal.decreases-loop-j
decreases-loop-j l = 32 - l.j
