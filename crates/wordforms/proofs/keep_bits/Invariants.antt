-- `wordforms::keep_bits` meets its contract: before byte k, that many bits are stored, and the byte at k is still the first one. Assumes nothing.
use mathlib.Core.Path.{◌≡◌}
use Prim.Native.Nat.{◌≤◌}
use lib.ListN.{length}
use lib.Seq.{sets}
use Rattle.laws.specs.Part.{list_of}
use Rattle.laws.specs.Sum.{bit}
use Rattle.wordforms.specs.Words.{sends_at}
use Rattle.wordforms.proofs.keep_bits.Given as goal

abbrev pub invariant-loop-k : goal.invariant-loop-k
invariant-loop-k l = (l.k ≤ l.k-end) × (l.k-end ≡ length l.initial.row) × (length l.row ≡ length l.initial.row) ×
    (l.row ≡ sets l.initial.row 0 (list_of (λ k. bit (sends_at l.initial.row l.b k)) l.k))
