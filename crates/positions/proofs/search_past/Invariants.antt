-- `positions::search_past` meets its contract: the lowest from a word on is the lowest from n on. Assumes nothing.
use mathlib.Core.Path.{◌≡◌}
use Prim.Native.Nat.{◌*◌, ◌≤◌, max}
use Rattle.positions.specs.Blocked.{most_positions, first_past}
use Rattle.positions.proofs.search_past.Given as goal

abbrev pub invariant-loop-j : goal.invariant-loop-j
invariant-loop-j l = (64 * l.j ≤ max l.n most_positions) × (first_past l.set (max l.n (64 * l.j)) ≡ first_past l.set l.n)
