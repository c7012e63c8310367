-- `rowapart::cover_idle` meets its contract: before position k, those below it are covered. Assumes nothing.
use mathlib.Core.Path.{◌≡◌}
use mathlib.Core.List.{[]}
use Prim.Native.Nat.{◌-◌, ◌≤◌}
use lib.ListN.{length}
use lib.Seq.{sets}
use Rattle.laws.specs.Part.{list_of}
use Rattle.rowapart.specs.Code.{cover_by}
use Rattle.rowapart.proofs.cover_idle.Given as goal

abbrev pub invariant-loop-k : goal.invariant-loop-k
invariant-loop-k l = (l.k ≤ l.n) × (length l.row ≡ l.n) × (l.row ≡ sets l.initial.row 0 (list_of (cover_by l.n l.table l.j []) l.k))

abbrev pub decreases-loop-k : goal.decreases-loop-k
decreases-loop-k l = l.n - l.k
