-- `rows::reserve_idle` meets its contract: before position p, those below p are done. Assumes nothing.
use mathlib.Core.Path.{◌≡◌, refl, ◌∙◌}
use mathlib.Core.List.{append-nil}
use Prim.Native.Nat.{◌≤◌, ◌<◌}
use native.Mathlib.Omega.{arith}
use lib.ListN.{length, length-set}
use lib.Seq.{take_all, drop-length}
use Rattle.theory.specs.Net.{unblocked}
use Rattle.theory.specs.Greedy.{fill}
use Rattle.theory.proofs.Row.{fill-length}
use Rattle.rows.proofs.Fill.{done_more}
use Rattle.rows.proofs.reserve_idle.Goals as goal

pub loop-p-preserved : goal.loop-p-preserved
loop-p-preserved c = let p = c.loop-p in
    let x = c.args.stretch.now in
    let l : p.p < length x = omega arith in (
      omega arith,
      simp length-set p.invariant.1,
      refl,
      done_more x p.p l p.invariant.3 c.idle-taken.ensures,
    )

pub returns : goal.returns
returns c = let x = c.args.stretch.now in
    let e : c.loop-p.p ≡ length x = omega arith in
    let l : length (fill unblocked 0 (length x) x) ≤ length x = omega (arith, fill-length unblocked 0 (length x) x) in
    c.loop-p.invariant.3 ∙ rw (e, drop-length x, append-nil, take_all (length x) (fill unblocked 0 (length x) x) l)
