-- `packing::copy_rest` meets its contract: before byte i, that many bytes are stored. Assumes nothing.
use mathlib.Core.Path.{◌≡◌, refl, ◌∙◌}
use Prim.Native.Nat.{◌+◌, ◌-◌}
use native.Mathlib.Omega.{arith}
use lib.ListN.{length, get_or, length-set}
use Rattle.laws.proofs.Stores.{sets-none, sets_more}
use Rattle.packing.proofs.copy_rest.Goals as goal

pub loop-i-init : goal.loop-i-init
loop-i-init c = (refl, omega arith, refl, sets-none _ _)

pub loop-i-preserved : goal.loop-i-preserved
loop-i-preserved c = let l = c.loop-i in
    let a = c.args in (
      l.invariant.0,
      omega arith,
      length-set l.bytes l.i _ ∙ l.invariant.2,
      sets_more (λ q. get_or a.row.now (a.from + q) 0) l.i _ l.bytes a.bytes.now refl l.invariant.3,
    )

pub returns : goal.returns
returns c = let l = c.loop-i in
    let a = c.args in
    let e : l.i ≡ length a.row.now - a.from = omega arith in
    rw e at l.invariant.3
