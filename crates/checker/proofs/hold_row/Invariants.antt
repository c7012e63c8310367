-- `checker::hold_row` meets its contract: before position p, that many marks are stored, and the mark at p is still the first one. Assumes nothing.
use mathlib.Core.Path.{◌≡◌}
use Prim.Native.Nat.{◌-◌, ◌≤◌}
use lib.ListN.{length}
use Rattle.checker.specs.Marks.{held_row}
use Rattle.checker.proofs.hold_row.Given as goal

abbrev pub invariant-loop-p : goal.invariant-loop-p
invariant-loop-p l = (l.p ≤ l.m) × (length l.marks ≡ length l.initial.marks) × (l.marks ≡ held_row l.initial.marks l.table l.from l.p)

abbrev pub decreases-loop-p : goal.decreases-loop-p
decreases-loop-p l = l.m - l.p
