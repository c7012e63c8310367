-- `packing::short_word` meets its contract: before position b, the word has the positions below it. Assumes nothing.
use mathlib.Core.Path.{◌≡◌}
use Prim.Native.Nat.{◌-◌, ◌≤◌}
use lib.ListN.{length}
use Rattle.laws.specs.Bits.{word_of}
use Rattle.packing.specs.Packed.{in_row}
use Rattle.packing.proofs.short_word.Given as goal

abbrev pub invariant-loop-b : goal.invariant-loop-b
invariant-loop-b l = (l.n ≡ length l.row) × (l.b ≤ l.n) × (l.x ≡ word_of (in_row l.row) l.b)

abbrev pub decreases-loop-b : goal.decreases-loop-b
decreases-loop-b l = l.n - l.b
