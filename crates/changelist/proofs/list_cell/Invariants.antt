-- `changelist::list_cell` meets its contract: at the head of the loop the changes of the words below j are stored and listed. Assumes nothing.
use mathlib.Core.Path.{◌≡◌}
use Prim.Native.Nat.{◌+◌, ◌-◌, ◌*◌, ◌≤◌}
use lib.ListN.{length}
use lib.Seq.{sets}
use Rattle.laws.specs.Sum.{count}
use Rattle.mending.specs.Changes.{changed, cell_changes, follow}
use Rattle.standing.specs.Sets.{stands_in}
use Rattle.changelist.proofs.list_cell.Given as goal

abbrev pub invariant-loop-j : goal.invariant-loop-j
invariant-loop-j l = (l.table ≡ follow l.n (cell_changes (stands_in l.w l.stands) (stands_in l.w l.old) l.i (64 * l.j)) l.initial.table)
    × (l.list ≡ sets l.initial.list l.at (cell_changes (stands_in l.w l.stands) (stands_in l.w l.old) l.i (64 * l.j)))
    × (l.next ≡ l.at + 4 * count (changed (stands_in l.w l.stands) (stands_in l.w l.old) l.i) (64 * l.j))
    × (length l.table ≡ length l.initial.table)
    × (length l.list ≡ length l.initial.list)
    × (l.j ≤ l.w)

abbrev pub decreases-loop-j : goal.decreases-loop-j
decreases-loop-j l = l.w - l.j
