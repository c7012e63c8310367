-- `putblocks::slot_word` meets its contract: before channel f, the word has the channels below it. Assumes nothing.
use mathlib.Core.Path.{◌≡◌}
use Prim.Native.Nat.{ℕ, ◌+◌, ◌*◌, ◌-◌, ◌≤◌}
use Rattle.laws.specs.Bits.{word_of}
use Rattle.positions.specs.Blocked.{blocked_at}
use Rattle.putblocks.proofs.slot_word.Given as goal

abbrev pub invariant-loop-f : goal.invariant-loop-f
invariant-loop-f l = (l.f ≤ l.channels) × (l.y ≡ word_of (λ (g : ℕ). blocked_at l.set (l.t * l.channels + g)) l.f)

abbrev pub decreases-loop-f : goal.decreases-loop-f
decreases-loop-f l = l.channels - l.f
