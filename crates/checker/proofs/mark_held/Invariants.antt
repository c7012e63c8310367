-- `checker::mark_held` meets its contract: before cell i, the positions that a cell below i reserves are marked. Assumes nothing.
use mathlib.Core.Path.{◌≡◌}
use Prim.Native.Nat.{◌-◌, ◌≤◌}
use lib.ListN.{length}
use Rattle.checker.proofs.Barred.{HeldTo}
use Rattle.checker.proofs.mark_held.Given as goal

abbrev pub invariant-loop-i : goal.invariant-loop-i
invariant-loop-i l = (l.i ≤ l.cells) × (length l.marks ≡ length l.initial.marks) × HeldTo l.n l.table l.from l.m l.i l.marks

abbrev pub decreases-loop-i : goal.decreases-loop-i
decreases-loop-i l = l.cells - l.i
