-- `positions::bars` meets its contract: before position k, those below it have their bytes. Assumes nothing.
use mathlib.Core.Path.{◌≡◌, refl, ◌∙◌}
use native.Mathlib.Omega.{arith}
use lib.ListN.{length, length-set}
use Rattle.laws.specs.Part.{list_of}
use Rattle.laws.proofs.Stores.{length-list, sets-none, sets_more, sets-all}
use Rattle.positions.specs.Blocked.{bar_of}
use Rattle.positions.proofs.bars.Goals as goal

pub loop-k-init : goal.loop-k-init
loop-k-init c = (omega arith, refl, refl, sets-none (bar_of c.args.set.now) c.args.mask.now)

pub loop-k-preserved : goal.loop-k-preserved
loop-k-preserved c = let a = c.args in (
  omega arith,
  simp length-set c.loop-k.invariant.1,
  refl,
  sets_more (bar_of a.set.now) c.loop-k.k c.bar.result c.loop-k.mask a.mask.now c.bar.ensures c.loop-k.invariant.3,
)

pub returns : goal.returns
returns c = let a = c.args in
    let e : c.loop-k.k ≡ length a.mask.now = omega arith in
    (rw e at c.loop-k.invariant.3)
    ∙ sets-all (list_of (bar_of a.set.now) (length a.mask.now)) a.mask.now (length-list (bar_of a.set.now) (length a.mask.now))
