-- `mender::store_all` meets its contract: at the head of the loop the changes of the cells below j are stored. A row's changes fit the list, since a cell has
-- at most as many as its words have positions. Assumes nothing.
use mathlib.Core.Path.{◌≡◌}
use Prim.Native.Nat.{◌-◌, ◌*◌, ◌≤◌}
use lib.ListN.{length}
use Rattle.mending.specs.Changes.{changes, follow}
use Rattle.standing.specs.Sets.{stands_in}
use Rattle.mender.proofs.store_all.Given as goal

abbrev pub invariant-loop-j : goal.invariant-loop-j
invariant-loop-j l = (l.table ≡ follow l.n (changes (stands_in l.w l.stands) (stands_in l.w l.old) (64 * l.w) l.j) l.initial.table)
    × (length l.table ≡ length l.initial.table)
    × (length l.list ≡ length l.initial.list)
    × (l.j ≤ l.cells)

abbrev pub decreases-loop-j : goal.decreases-loop-j
decreases-loop-j l = l.cells - l.j
