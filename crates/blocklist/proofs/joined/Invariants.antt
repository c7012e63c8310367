-- `blocklist::joined` meets its contract: before bit b, the word has the positions below it. Assumes nothing.
use mathlib.Core.Path.{◌≡◌}
use Prim.Native.Nat.{◌+◌, ◌*◌, ◌-◌, ◌≤◌}
use Rattle.laws.specs.Bits.{word_of}
use Rattle.blocklist.specs.Read.{covers}
use Rattle.blocklist.proofs.joined.Given as goal

abbrev pub invariant-loop-b : goal.invariant-loop-b
invariant-loop-b l = (l.b ≤ 64) × (l.y ≡ word_of (λ i. covers l.channels l.block (64 * l.j + i)) l.b)

abbrev pub decreases-loop-b : goal.decreases-loop-b
decreases-loop-b l = 64 - l.b
