-- `wordturns::free_word` meets its contract: before cell a, the words of the clashing cells below it are taken away. Assumes nothing.
use mathlib.Core.Path.{◌≡◌}
use mathlib.Core.Bool.{◌&&◌, not}
use Prim.Native.Nat.{◌-◌, ◌≤◌}
use Rattle.laws.specs.Bits.{bit_at, bit_in, word_of}
use Rattle.laws.specs.Sum.{any}
use Rattle.wordturns.proofs.free_word.Given as goal

abbrev pub invariant-loop-a : goal.invariant-loop-a
invariant-loop-a l = (l.a ≤ l.i) × (l.free ≡ word_of (λ k. bit_at l.vacant k && not (any (λ c. bit_at l.row c && bit_in l.stands c k) l.a)) 64)

abbrev pub decreases-loop-a : goal.decreases-loop-a
decreases-loop-a l = l.i - l.a
