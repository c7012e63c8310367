-- `packing::put_two` meets its contract: before word d, that many words are stored. Assumes nothing.
use mathlib.Core.Path.{◌≡◌, refl}
use Prim.Native.Nat.{◌-◌}
use native.Mathlib.Omega.{arith}
use lib.ListN.{length-set}
use Rattle.laws.specs.Part.{list_of}
use Rattle.laws.proofs.Stores.{sets-after}
use Rattle.packing.specs.Packed.{one_of}
use Rattle.packing.proofs.put_two.Goals as goal

pub loop-d-init : goal.loop-d-init
unfolding list_of
loop-d-init c = (omega arith, refl, refl)

pub loop-d-preserved : goal.loop-d-preserved
loop-d-preserved c = let l = c.loop-d in
    let a = c.args in (
      omega arith,
      simp length-set l.invariant.1,
      sets-after (one_of a.x a.y) a.at l.d _ l.set a.set.now c.one_of.ensures l.invariant.2,
    )

pub returns : goal.returns
returns c = let e : c.loop-d.d ≡ c.args.n = omega arith in
    rw e at c.loop-d.invariant.2
