-- `rowapart::mark_by` meets its contract. At each head of the loop the row is the one handed in, as the cells below some k leave it, and `left` has the cells
-- from k on. It gets smaller with each turn. Assumes nothing.
use mathlib.Core.Path.{◌≡◌}
use Prim.Native.Nat.{ℕ, ◌≤◌}
use lib.ListN.{length}
use Rattle.laws.specs.Bits.{bit_at, word_of}
use Rattle.laws.proofs.Upward.{from_on}
use Rattle.planrows.specs.Row.{marks_on, by_word}
use Rattle.rowapart.proofs.mark_by.Given as goal

abbrev pub invariant-loop-left : goal.invariant-loop-left
invariant-loop-left l = (k : ℕ) × (k ≤ l.i) × (length l.row ≡ l.n) × (l.row ≡ marks_on l.n (by_word l.cells) l.table l.i l.initial.row k) ×
    (l.left ≡ word_of (from_on (bit_at l.cells) k) l.i)

abbrev pub decreases-loop-left : goal.decreases-loop-left
decreases-loop-left l = l.left
