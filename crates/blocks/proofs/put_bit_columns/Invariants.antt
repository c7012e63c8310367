-- `blocks::put_bit_columns` meets its contract: before column at, that many columns are stored. Assumes nothing.
use mathlib.Core.Path.{◌≡◌}
use Prim.Native.Nat.{◌+◌, ◌-◌, ◌*◌, ◌≤◌}
use lib.ListN.{length}
use lib.Seq.{sets}
use Rattle.laws.specs.Bits.{word_of}
use Rattle.laws.specs.Part.{list_of}
use Rattle.blocks.specs.Order.{bit_of_two}
use Rattle.blocks.proofs.put_bit_columns.Given as goal

abbrev pub invariant-loop-at : goal.invariant-loop-at
invariant-loop-at l = (l.at ≤ 16) × (length l.bits ≡ length l.initial.bits) ×
    (l.bits ≡ sets l.initial.bits 0 (list_of (λ j. word_of (λ k. bit_of_two l.x l.y (j + 16 * k)) 8) l.at))

abbrev pub decreases-loop-at : goal.decreases-loop-at
decreases-loop-at l = 16 - l.at
