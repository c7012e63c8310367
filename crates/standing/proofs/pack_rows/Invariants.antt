-- `standing::pack_rows` meets its contract: before cell i, the rows of the cells below it are packed. Assumes nothing.
use mathlib.Core.Path.{◌≡◌}
use Prim.Native.Nat.{◌-◌, ◌≤◌}
use lib.ListN.{length}
use Rattle.standing.specs.Turns.{packed_rows}
use Rattle.standing.proofs.pack_rows.Given as goal

abbrev pub invariant-loop-i : goal.invariant-loop-i
invariant-loop-i l = (l.i ≤ l.cells) × (length l.old ≡ length l.initial.old) × (l.old ≡ packed_rows l.w l.n l.table l.initial.old l.i)

abbrev pub decreases-loop-i : goal.decreases-loop-i
decreases-loop-i l = l.cells - l.i
