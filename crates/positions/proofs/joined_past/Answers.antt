-- `positions::joined_past` meets its contract: before word j, what is joined is 0 only where no position from n to that word is in the set. Assumes nothing.
use mathlib.Core.Path.{refl}
use native.Mathlib.Omega.{arith}
use Rattle.positions.proofs.Joins.{past_first, past_more}
use Rattle.positions.proofs.joined_past.Goals as goal

pub loop-j-init : goal.loop-j-init
loop-j-init c = let a = c.args in
    (omega arith, past_first a.set.now a.n _ refl)

pub loop-j-preserved : goal.loop-j-preserved
loop-j-preserved c = let a = c.args in
    (omega arith, past_more a.set.now a.n c.loop-j.j c.loop-j.all c.loop-j.invariant.1)
