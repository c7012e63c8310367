-- `rows::lift` meets its contract: what the row will be does not change. Assumes nothing.
use mathlib.Core.Path.{◌≡◌, sym, ◌∙◌}
use Prim.Native.Nat.{◌<◌}
use native.Mathlib.Omega.{arith}
use lib.ListN.{length, length-set}
use Rattle.rows.proofs.Bars.{lift-turn, lift-end}
use Rattle.rows.proofs.lift.Goals as goal

pub loop-p-preserved : goal.loop-p-preserved
loop-p-preserved c = let l = c.loop-p in
    let h : l.p < length l.row = omega arith in (
      omega arith,
      simp length-set l.invariant.1,
      lift-turn l.p c.lower.result l.row h c.lower.ensures ∙ l.invariant.2,
    )

pub returns : goal.returns
returns c = let l = c.loop-p in
    let e : l.p ≡ length l.row = omega arith in
    sym (lift-end l.row) ∙ (rw e at l.invariant.2)
