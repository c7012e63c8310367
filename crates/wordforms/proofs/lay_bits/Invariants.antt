-- `wordforms::lay_bits` meets its contract: before byte k, that many bits are stored, and the bytes past them are still the first ones. Assumes nothing.
use mathlib.Core.Path.{◌≡◌}
use Prim.Native.Nat.{◌+◌, ◌-◌, ◌≤◌}
use lib.ListN.{length, get_or}
use lib.Seq.{sets}
use Rattle.laws.specs.Bits.{bit_at}
use Rattle.laws.specs.Part.{list_of}
use Rattle.laws.specs.Sum.{bit}
use Rattle.wordforms.proofs.lay_bits.Given as goal

abbrev pub invariant-loop-k : goal.invariant-loop-k
invariant-loop-k l = (l.k ≤ l.n) × (length l.rows ≡ length l.initial.rows) ×
    (l.rows ≡ sets l.initial.rows l.to (list_of (λ k. bit (bit_at (get_or l.initial.rows (l.at + k) 0) l.b)) l.k))

abbrev pub decreases-loop-k : goal.decreases-loop-k
decreases-loop-k l = l.n - l.k
