-- `positions::joined` meets its contract: before word j, those below it are joined. Assumes nothing.
use mathlib.Core.Path.{refl}
use Prim.Native.Nat.{◌<◌, ◌^◌}
use lib.ListN.{get_or}
use borrow.Author.Rules.{rules}
use native.Mathlib.Omega.{arith}
use Rattle.laws.specs.Sum.{any}
use Rattle.positions.proofs.Joins.{joined-more}
use Rattle.positions.proofs.joined.Goals as goal

pub loop-j-init : goal.loop-j-init
unfolding any
loop-j-init c = (omega arith, refl)

pub loop-j-preserved : goal.loop-j-preserved
loop-j-preserved c = let set = c.args.set.now in
    let word = get_or set c.loop-j.j 0 in
    let small : word < 2 ^ 64 = search rules in
    (omega arith, joined-more set c.loop-j.j c.loop-j.all c.loop-j.invariant.1 small)
