-- `planrows::mark_by` meets its contract. At each head of the loop the table is the one handed in, with row i as the cells below some k leave it (`marks`),
-- and `left` has the cells from k on. It gets smaller with each turn. Assumes nothing.
use mathlib.Core.Path.{◌≡◌}
use Prim.Native.Nat.{ℕ, ◌≤◌}
use lib.ListN.{length}
use Rattle.laws.specs.Bits.{bit_at, word_of}
use Rattle.laws.proofs.Upward.{from_on}
use Rattle.planrows.specs.Row.{by_word}
use Rattle.planrows.proofs.Marked.{marks}
use Rattle.planrows.proofs.mark_by.Given as goal

abbrev pub invariant-loop-left : goal.invariant-loop-left
invariant-loop-left l = (k : ℕ)
    × (k ≤ l.i)
    × (length l.table ≡ length l.initial.table)
    × (l.table ≡ marks l.n (by_word l.cells) l.i k l.initial.table)
    × (l.left ≡ word_of (from_on (bit_at l.cells) k) l.i)

abbrev pub decreases-loop-left : goal.decreases-loop-left
decreases-loop-left l = l.left
