-- `rows::reserve_idle` meets its contract: before position p, those below p are done. Assumes nothing.
use mathlib.Core.Path.{◌≡◌}
use Prim.Native.Nat.{◌≤◌}
use lib.ListN.{length}
use Rattle.rows.proofs.Fill.{done}
use Rattle.rows.proofs.reserve_idle.Given as goal

abbrev pub invariant-loop-p : goal.invariant-loop-p
invariant-loop-p l = (l.p ≤ l.p-end) × (length l.stretch ≡ l.p-end) × (l.p-end ≡ length l.initial.stretch) × (l.stretch ≡ done l.p l.initial.stretch)
