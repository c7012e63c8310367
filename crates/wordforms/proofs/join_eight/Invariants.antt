-- `wordforms::join_eight` meets its contract: before byte k, that many joined words are stored, and the word at k is still the first one. Assumes nothing.
use mathlib.Core.Path.{◌≡◌}
use Prim.Native.Nat.{◌+◌, ◌-◌, ◌*◌, ◌^◌, ◌≤◌}
use lib.Bits.{bit_or}
use lib.ListN.{length, get_or}
use lib.Seq.{sets}
use Rattle.laws.specs.Part.{list_of}
use Rattle.wordforms.proofs.join_eight.Given as goal

abbrev pub invariant-loop-k : goal.invariant-loop-k
invariant-loop-k l = (l.k ≤ l.m) × (length l.words ≡ length l.initial.words) ×
    (l.words ≡ sets l.initial.words l.at (list_of (λ k. bit_or (get_or l.initial.words (l.at + k) 0) (get_or l.bytes k 0 * 2 ^ l.i)) l.k))

abbrev pub decreases-loop-k : goal.decreases-loop-k
decreases-loop-k l = l.m - l.k
