-- `reachrows::column` meets its contract: before row b, the word of the rows below b. Assumes nothing.
use mathlib.Core.Path.{◌≡◌}
use Prim.Native.Nat.{◌-◌, ◌≤◌}
use Rattle.laws.specs.Bits.{bit_in, word_of}
use Rattle.reachrows.proofs.column.Given as goal

abbrev pub invariant-loop-b : goal.invariant-loop-b
invariant-loop-b l = (l.b ≤ l.n) × (l.word ≡ word_of (λ k. bit_in l.rows k l.a) l.b)

abbrev pub decreases-loop-b : goal.decreases-loop-b
decreases-loop-b l = l.n - l.b
