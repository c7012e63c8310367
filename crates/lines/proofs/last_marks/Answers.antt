-- `lines::last_marks` meets its contract: the last mark first, so that the row is twice itself and one bit; `ok` says that the marks from b on stand there.
-- Assumes nothing.
use Prim.Native.Nat.{◌+◌, ◌<◌, ◌≤◌, ◌-◌, ◌*◌}
use Rattle.lines.proofs.Steps.{begin-row, begin-ok, row_fits, few-good, few-bad, ok_step, row_here}
use native.Mathlib.Omega.{arith}
use mathlib.Core.Path.{◌≡◌, ◌∙◌}
use lib.ListN.{length}
use Rattle.lines.proofs.last_marks.Goals as goal

pub loop-b-init : goal.loop-b-init
loop-b-init c = let a = c.args in
    (omega arith, begin-row a.s.now a.at a.n, begin-ok a.s.now a.at a.n)

pub overflow_mul-row : goal.overflow_mul-row
overflow_mul-row c =
    let small : c.loop-b.row < 2147483648 = let a = c.args in
    rw c.loop-b.invariant.1 (row_fits a.s.now a.at c.loop-b.b a.n (omega arith) (omega arith) (omega arith)) in
    omega (arith, small)

pub overflow_add-row : goal.overflow_add-row
overflow_add-row c =
    let small : c.loop-b.row < 2147483648 = let a = c.args in
    rw c.loop-b.invariant.1 (row_fits a.s.now a.at c.loop-b.b a.n (omega arith) (omega arith) (omega arith)) in
    omega (arith, small, c.one.ensures.upper_bound)

pub loop-b-preserved : goal.loop-b-preserved
loop-b-preserved c = let a = c.args in
    let h : 0 < c.loop-b.b = omega arith in
    let m : c.loop-b.b ≤ a.n = omega arith in
    let e : a.at + 2 * (c.loop-b.b - 1) + 1 < length a.s.now = omega arith in (
      omega arith,
      rw c.loop-b.invariant.1 (row_here a.s.now a.at c.loop-b.b a.n _ c.one.ensures.value h m),
      c.mark_ok-ok.ensures ∙ rw c.loop-b.invariant.2 (ok_step a.s.now a.at c.loop-b.b a.n h m e),
    )

pub returns-then-ok : goal.returns-then-ok
returns-then-ok c = let a = c.args in
    let z : a.from ≡ c.loop-b.b = omega arith in
    rw z (few-good a.s.now a.at c.loop-b.b a.n c.loop-b.row c.loop-b.ok c.loop-b.invariant.1 c.loop-b.invariant.2 c.if-ok.true)

pub returns : goal.returns
returns c = let a = c.args in
    let z : a.from ≡ c.loop-b.b = omega arith in
    rw z (few-bad a.s.now a.at c.loop-b.b a.n c.loop-b.ok c.loop-b.invariant.2 c.if-ok.false)
