-- `words::add_row` meets its contract: before position p, that many joined words are stored, and the word at p is still the first one.
-- Assumes nothing.
use mathlib.Core.Path.{◌≡◌}
use Prim.Native.Nat.{◌-◌, ◌≤◌}
use lib.ListN.{length}
use Rattle.words.specs.Words.{joined_row}
use Rattle.words.proofs.add_row.Given as goal

abbrev pub invariant-loop-p : goal.invariant-loop-p
invariant-loop-p l = (l.p ≤ l.n) × (length l.words ≡ length l.initial.words) × (l.words ≡ joined_row l.initial.words l.table l.from l.p l.bit)

abbrev pub decreases-loop-p : goal.decreases-loop-p
decreases-loop-p l = l.n - l.p
