-- `resize::moved_word` meets its contract: before bit b, the word has the positions below it. Assumes nothing.
use Prim.Native.Nat.{◌+◌, ◌*◌, ◌-◌, ◌≤◌}
use mathlib.Core.Path.{◌≡◌}
use Rattle.laws.specs.Bits.{word_of}
use Rattle.resize.specs.Sizes.{moved_at}
use Rattle.resize.proofs.moved_word.Given as goal

abbrev pub invariant-loop-b : goal.invariant-loop-b
invariant-loop-b l = (l.b ≤ 64) × (l.y ≡ word_of (λ i. moved_at l.set l.slots l.channels l.to (64 * l.j + i)) l.b)

abbrev pub decreases-loop-b : goal.decreases-loop-b
decreases-loop-b l = 64 - l.b
