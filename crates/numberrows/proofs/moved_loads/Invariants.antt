-- `numberrows::moved_loads` meets its contract: the elements below a are stored, each from the old number. Assumes nothing.
use mathlib.Core.Path.{◌≡◌}
use Prim.Native.Nat.{◌-◌, ◌≤◌}
use lib.ListN.{length}
use lib.Seq.{sets}
use Rattle.laws.specs.Part.{list_of}
use Rattle.numberrows.proofs.Moved.{move_at}
use Rattle.numberrows.proofs.moved_loads.Given as goal

abbrev pub invariant-loop-a : goal.invariant-loop-a
invariant-loop-a l = (l.a ≤ l.cells) × (length l.moved ≡ 32) × (l.moved ≡ sets l.initial.moved 0 (list_of (move_at l.old l.cells l.loads) l.a))

abbrev pub decreases-loop-a : goal.decreases-loop-a
decreases-loop-a l = l.cells - l.a
