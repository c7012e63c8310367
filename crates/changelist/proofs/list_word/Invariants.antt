-- `changelist::list_word` meets its contract: at the head of the loop the changes below some position are stored and listed, and what is left has the bits from
-- there on (`Worded`). Assumes nothing.
use mathlib.Core.Path.{◌≡◌}
use Prim.Native.Nat.{◌-◌}
use lib.ListN.{length}
use Rattle.changelist.proofs.Word.{Worded}
use Rattle.changelist.proofs.list_word.Given as goal

abbrev pub invariant-loop-rest : goal.invariant-loop-rest
invariant-loop-rest l = (length l.table ≡ length l.initial.table) × (length l.list ≡ length l.initial.list)
    × Worded l.is l.was l.n l.i l.from l.at l.initial.table l.initial.list l.table l.list l.rest l.next

abbrev pub decreases-loop-rest : goal.decreases-loop-rest
decreases-loop-rest l = l.rest
