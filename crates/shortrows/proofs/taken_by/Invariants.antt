-- `shortrows::taken_by` meets its contract. At each head of the loop the words of the cells below some k are joined, and `left` has the cells from k on.
-- It gets smaller with each turn. Assumes nothing.
use mathlib.Core.Path.{◌≡◌}
use Prim.Native.Nat.{ℕ, ◌≤◌}
use Rattle.laws.specs.Bits.{bit_at, word_of}
use Rattle.laws.proofs.Upward.{from_on}
use Rattle.shortrows.specs.Short.{any_held}
use Rattle.shortrows.proofs.taken_by.Given as goal

abbrev pub invariant-loop-left : goal.invariant-loop-left
invariant-loop-left l = (k : ℕ) × (k ≤ l.i) × (l.taken ≡ word_of (any_held l.held l.near k) 64) × (l.left ≡ word_of (from_on (bit_at l.near) k) l.i)

abbrev pub decreases-loop-left : goal.decreases-loop-left
decreases-loop-left l = l.left
