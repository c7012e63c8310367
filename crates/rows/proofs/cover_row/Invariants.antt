-- `rows::cover_row` meets its contract: before position p, those below it are covered. Assumes nothing.
use mathlib.Core.Path.{◌≡◌}
use Prim.Native.Nat.{◌-◌, ◌*◌, ◌≤◌}
use lib.ListN.{length}
use lib.Seq.{sets}
use Rattle.laws.specs.Part.{list_of}
use Rattle.rows.specs.Stretch.{cover_at}
use Rattle.rows.proofs.cover_row.Given as goal

abbrev pub invariant-loop-p : goal.invariant-loop-p
invariant-loop-p l = (l.p ≤ l.n) × (length l.table ≡ length l.initial.table) ×
    (l.table ≡ sets l.initial.table (l.i * l.n) (list_of (cover_at l.n l.initial.table l.j l.i) l.p))

abbrev pub decreases-loop-p : goal.decreases-loop-p
decreases-loop-p l = l.n - l.p
