-- `search::hunt` meets its contract: at each head of the loop, what is left of the search is the whole search. Each turn makes a try or goes back a
-- fragment.
-- Assumes nothing.
use mathlib.Core.Path.{◌≡◌}
use Prim.Native.Nat.{◌+◌, ◌-◌, ◌*◌}
use lib.ListN.{length}
use Rattle.search.proofs.Going.{Going}
use Rattle.search.proofs.hunt.Given as goal

abbrev pub invariant-loop-d : goal.invariant-loop-d
invariant-loop-d l = (l.many ≡ length l.opens) × Going l.owner l.opens l.clash l.limit l.at l.words l.d l.i l.tries

abbrev pub decreases-loop-d : goal.decreases-loop-d
decreases-loop-d l = (l.limit - l.tries) * 200 + l.d * 70 + (64 - l.i)
