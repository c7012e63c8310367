-- `changelist::list_all` meets its contract: at the head of the loop the changes of the cells below i are stored and listed. Assumes nothing.
use mathlib.Core.Path.{◌≡◌}
use Prim.Native.Nat.{◌-◌, ◌*◌, ◌≤◌}
use lib.ListN.{length}
use lib.Seq.{sets}
use Rattle.mending.specs.Changes.{changes, follow}
use Rattle.standing.specs.Sets.{stands_in}
use Rattle.changelist.specs.Sets.{all_count}
use Rattle.changelist.proofs.list_all.Given as goal

abbrev pub invariant-loop-i : goal.invariant-loop-i
invariant-loop-i l = (l.i ≤ l.cells)
    × (length l.table ≡ length l.initial.table)
    × (length l.list ≡ length l.initial.list)
    × (l.table ≡ follow l.n (changes (stands_in l.w l.stands) (stands_in l.w l.old) (64 * l.w) l.i) l.initial.table)
    × (l.list ≡ sets l.initial.list 0 (changes (stands_in l.w l.stands) (stands_in l.w l.old) (64 * l.w) l.i))
    × (l.at ≡ 4 * all_count l.w l.i l.stands l.old)

abbrev pub decreases-loop-i : goal.decreases-loop-i
decreases-loop-i l = l.cells - l.i
