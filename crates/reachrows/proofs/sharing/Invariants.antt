-- `reachrows::sharing` meets its contract: before row b, the word of the rows below b that share a bit with x. Assumes nothing.
use mathlib.Core.Path.{◌≡◌}
use mathlib.Core.Bool.{◌&&◌}
use Prim.Native.Nat.{◌-◌, ◌≤◌}
use Rattle.laws.specs.Bits.{bit_at, bit_in, word_of}
use Rattle.laws.specs.Sum.{any}
use Rattle.reachrows.proofs.sharing.Given as goal

abbrev pub invariant-loop-b : goal.invariant-loop-b
invariant-loop-b l = (l.b ≤ 32) × (l.word ≡ word_of (λ k. any (λ c. bit_at l.x c && bit_in l.rows k c) 32) l.b)

abbrev pub decreases-loop-b : goal.decreases-loop-b
decreases-loop-b l = 32 - l.b
