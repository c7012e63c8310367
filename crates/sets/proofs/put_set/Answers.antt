-- `sets::put_set` meets its contract: before word j, that many words are stored. Assumes nothing.
use mathlib.Core.Path.{◌≡◌, refl, ◌∙◌}
use Prim.Native.Nat.{◌+◌}
use native.Mathlib.Omega.{arith}
use lib.ListN.{get_or, length-set}
use Rattle.laws.specs.Part.{list_of}
use Rattle.laws.proofs.Stores.{sets-after}
use Rattle.sets.proofs.put_set.Goals as goal

pub loop-j-init : goal.loop-j-init
unfolding list_of
loop-j-init c = (omega arith, refl, refl)

pub loop-j-preserved : goal.loop-j-preserved
loop-j-preserved c = let l = c.loop-j in
    let a = c.args in (
      omega arith,
      length-set l.out (a.at + l.j) _ ∙ l.invariant.1,
      sets-after (λ q. get_or a.set.now q 0) a.at l.j _ l.out a.out.now refl l.invariant.2,
    )

pub returns : goal.returns
returns c = let e : c.loop-j.j ≡ c.args.w = omega arith in
    rw e at c.loop-j.invariant.2
