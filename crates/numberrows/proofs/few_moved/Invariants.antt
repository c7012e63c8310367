-- `numberrows::few_moved` meets its contract: the rows below a are stored, each from the old number and with its bits moved. Assumes nothing.
use mathlib.Core.Path.{◌≡◌}
use Prim.Native.Nat.{◌-◌, ◌≤◌}
use lib.ListN.{length}
use lib.Seq.{sets}
use Rattle.laws.specs.Bits.{word_of}
use Rattle.laws.specs.Part.{list_of}
use Rattle.numberrows.proofs.Moved.{moved_bit}
use Rattle.numberrows.proofs.few_moved.Given as goal

abbrev pub invariant-loop-a : goal.invariant-loop-a
invariant-loop-a l = (l.a ≤ l.cells) × (length l.moved ≡ 32) ×
    (l.moved ≡ sets l.initial.moved 0 (list_of (λ k. word_of (moved_bit l.old l.cells l.rows k) 32) l.a))

abbrev pub decreases-loop-a : goal.decreases-loop-a
decreases-loop-a l = l.cells - l.a
