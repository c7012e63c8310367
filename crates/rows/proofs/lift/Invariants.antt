-- `rows::lift` meets its contract: what the row will be does not change. Assumes nothing.
use mathlib.Core.Path.{◌≡◌}
use Prim.Native.Nat.{◌≤◌}
use lib.ListN.{length}
use Rattle.rows.specs.Bars.{lifted}
use Rattle.rows.proofs.Bars.{lifting}
use Rattle.rows.proofs.lift.Given as goal

abbrev pub invariant-loop-p : goal.invariant-loop-p
invariant-loop-p l = (l.p ≤ l.p-end) × (length l.row ≡ l.p-end) × (lifting l.p l.row ≡ lifted l.initial.row)
