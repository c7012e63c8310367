-- `square::stage` meets its contract: before pair i, the first 2 i rows are stored. Assumes nothing.
use mathlib.Core.Path.{◌≡◌}
use Prim.Native.Nat.{◌*◌, ◌-◌, ◌≤◌}
use lib.Seq.{sets}
use Rattle.laws.specs.Part.{list_of}
use Rattle.square.specs.Stage.{crossed}
use Rattle.square.proofs.stage.Given as goal

abbrev pub invariant-loop-i : goal.invariant-loop-i
invariant-loop-i l = (l.pairs ≡ 16) × (l.i ≤ l.pairs) × (l.to ≡ sets l.initial.to 0 (list_of (crossed l.m l.mask l.from) (2 * l.i)))

abbrev pub decreases-loop-i : goal.decreases-loop-i
decreases-loop-i l = l.pairs - l.i
