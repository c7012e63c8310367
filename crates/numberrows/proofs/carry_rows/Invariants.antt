-- `numberrows::carry_rows` meets its contract: the rows below i are carried. Assumes nothing.
use mathlib.Core.Path.{◌≡◌}
use Prim.Native.Nat.{◌-◌, ◌≤◌}
use lib.ListN.{length}
use Rattle.renumbering.specs.Numbering.{index_at}
use Rattle.renumbering.specs.Carry.{carried}
use Rattle.numberrows.proofs.carry_rows.Given as goal

abbrev pub invariant-loop-i : goal.invariant-loop-i
invariant-loop-i l = (l.i ≤ l.cells) × (length l.to ≡ length l.initial.to) × (l.to ≡ carried (index_at l.new) l.width l.from l.initial.to l.i)

abbrev pub decreases-loop-i : goal.decreases-loop-i
decreases-loop-i l = l.cells - l.i
