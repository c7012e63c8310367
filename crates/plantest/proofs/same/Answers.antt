-- `plantest::same` meets its contract: before byte k, one of those below it differs exactly where `other` is not 0. Assumes nothing.
use mathlib.Core.Path.{◌≡◌, refl}
use mathlib.Core.Bool.{not}
use Prim.Native.Nat.{◌+◌, ◌-◌}
use native.Mathlib.Omega.{arith}
use lib.Dec.{eqb}
use lib.ListN.{get_or}
use Rattle.laws.specs.Sum.{any}
use Rattle.rowapart.proofs.Bytes.{differ-more, differ-end}
use Rattle.plantest.proofs.same.Goals as goal

pub loop-k-init : goal.loop-k-init
unfolding any
loop-k-init c = (omega arith, refl)

pub loop-k-preserved : goal.loop-k-preserved
loop-k-preserved c = let l = c.loop-k in
    let a = c.args in (
      omega arith,
      differ-more (λ j. not (eqb (get_or a.table.now (a.from + j) 0) (get_or a.row.now j 0))) l.k l.other _ refl l.invariant.1,
    )

pub returns : goal.returns
returns c = let l = c.loop-k in
    let a = c.args in
    let e : l.k ≡ a.n = omega arith in
    differ-end (eqb l.other 0) _ (rw e at l.invariant.1)
