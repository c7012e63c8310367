-- `words::meet_row` meets its contract: before position p, that many words and marks are stored, and those at p are still the first ones.
-- Assumes nothing.
use mathlib.Core.Path.{◌≡◌}
use Prim.Native.Nat.{◌-◌, ◌≤◌}
use lib.ListN.{length}
use Rattle.words.specs.Words.{joined_row, marked_row}
use Rattle.words.proofs.meet_row.Given as goal

abbrev pub invariant-loop-p : goal.invariant-loop-p
invariant-loop-p l = (l.p ≤ l.n)
    × (length l.words ≡ length l.initial.words)
    × (length l.marks ≡ length l.initial.marks)
    × (l.words ≡ joined_row l.initial.words l.table l.from l.p l.bit)
    × (l.marks ≡ marked_row l.initial.marks l.initial.words l.table l.from l.p l.row)

abbrev pub decreases-loop-p : goal.decreases-loop-p
decreases-loop-p l = l.n - l.p
