-- `rowapart::cover_by` meets its contract: before position p, those below it are covered. Assumes nothing.
use mathlib.Core.Path.{◌≡◌}
use Prim.Native.Nat.{◌-◌, ◌≤◌}
use lib.ListN.{length}
use lib.Seq.{sets}
use Rattle.laws.specs.Part.{list_of}
use Rattle.rowapart.specs.Code.{cover_by}
use Rattle.rowapart.proofs.cover_by.Given as goal

abbrev pub invariant-loop-p : goal.invariant-loop-p
invariant-loop-p l = (l.p ≤ l.n) × (length l.row ≡ l.n) × (l.row ≡ sets l.initial.row 0 (list_of (cover_by l.n l.table l.j l.initial.row) l.p))

abbrev pub decreases-loop-p : goal.decreases-loop-p
decreases-loop-p l = l.n - l.p
