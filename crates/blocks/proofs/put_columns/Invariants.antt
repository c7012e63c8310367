-- `blocks::put_columns` meets its contract: before column b, that many columns are stored. Assumes nothing.
use mathlib.Core.Path.{◌≡◌}
use Prim.Native.Nat.{◌+◌, ◌-◌, ◌≤◌}
use lib.ListN.{length}
use lib.Seq.{sets}
use Rattle.laws.specs.Part.{list_of}
use Rattle.blocks.specs.Order.{column_at}
use Rattle.blocks.proofs.put_columns.Given as goal

abbrev pub invariant-loop-b : goal.invariant-loop-b
invariant-loop-b l = (l.b ≤ 16) × (length l.bits ≡ length l.initial.bits) × (l.bits ≡ sets l.initial.bits 0 (list_of (λ k. column_at l.bytes (l.from + k)) l.b))

abbrev pub decreases-loop-b : goal.decreases-loop-b
decreases-loop-b l = 16 - l.b
