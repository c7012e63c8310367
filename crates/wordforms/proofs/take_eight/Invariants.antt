-- `wordforms::take_eight` meets its contract: before position k, that many bytes are stored. Assumes nothing.
use mathlib.Core.Path.{◌≡◌}
use Prim.Native.Nat.{◌+◌, ◌-◌, ◌≤◌}
use lib.ListN.{length}
use lib.Seq.{sets}
use Rattle.laws.specs.Part.{list_of}
use Rattle.wordforms.specs.Eights.{eight_of}
use Rattle.wordforms.proofs.take_eight.Given as goal

abbrev pub invariant-loop-k : goal.invariant-loop-k
invariant-loop-k l = (l.k ≤ l.m) × (length l.bytes ≡ length l.initial.bytes) ×
    (l.bytes ≡ sets l.initial.bytes 0 (list_of (λ k. eight_of l.n l.table l.i (l.at + k)) l.k))

abbrev pub decreases-loop-k : goal.decreases-loop-k
decreases-loop-k l = l.m - l.k
