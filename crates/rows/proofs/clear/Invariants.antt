-- `rows::clear` meets its contract. Assumes nothing.
use mathlib.Core.Path.{◌≡◌}
use mathlib.Core.List.{◌++◌}
use Prim.Native.Nat.{◌≤◌}
use lib.ListN.{length, replicate, drop}
use Rattle.rows.proofs.clear.Given as goal

abbrev pub invariant-loop-p : goal.invariant-loop-p
invariant-loop-p l = (l.p ≤ l.p-end) × (length l.bytes ≡ l.p-end) × (l.bytes ≡ replicate l.p 0 ++ drop l.p l.initial.bytes)
