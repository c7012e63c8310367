-- `wordforms::lay_bytes` meets its contract: before word k, that many bytes are stored. Assumes nothing.
use mathlib.Core.Path.{◌≡◌}
use Prim.Native.Nat.{◌/◌, ◌%◌, ◌^◌, ◌≤◌}
use lib.ListN.{length, get_or}
use lib.Seq.{sets}
use Rattle.laws.specs.Part.{list_of}
use Rattle.wordforms.proofs.lay_bytes.Given as goal

abbrev pub invariant-loop-k : goal.invariant-loop-k
invariant-loop-k l = (l.k ≤ l.k-end) × (l.k-end ≡ length l.initial.row) × (length l.row ≡ length l.initial.row) ×
    (l.row ≡ sets l.initial.row 0 (list_of (λ k. get_or l.words k 0 / 2 ^ l.i % 256) l.k))
