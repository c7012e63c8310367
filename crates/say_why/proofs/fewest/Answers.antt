-- `say_why::fewest` meets its contract: a case for each way out. Assumes nothing.
use Prim.Native.Nat.{◌*◌, ◌/◌, ◌≤◌, ◌<◌}
use native.Mathlib.Nat.{div-add-mod', mul-le-mul_left}
use native.Mathlib.Omega.{arith}
use borrow.Author.Tests.{lt-ltb, le-ltb, eq-eqb, ne_eqb}
use Rattle.why.specs.Said.{fewest}
use Rattle.say_why.proofs.fewest.Goals as goal

pub returns-then-n-lt1 : goal.returns-then-n-lt1
unfolding fewest
returns-then-n-lt1 c = let h : c.args.n ≤ 0 = omega (arith, c.if-n-lt1.true) in rw (le-ltb 0 c.args.n h)

pub returns-then-n-f-eq0 : goal.returns-then-n-f-eq0
unfolding fewest
returns-then-n-f-eq0 c = let h : 0 < c.args.n = omega (arith, c.if-n-lt1.false) in
    rw (lt-ltb 0 c.args.n h, eq-eqb _ 0 c.if-n-f-eq0.true)

pub overflow_add-result : goal.overflow_add-result
overflow_add-result c = let q = c.args.n / c.args.f in
    let some : 1 ≤ c.args.f = omega (arith, c.requires) in
    let k : q * 1 ≤ q * c.args.f = mul-le-mul_left q some in
    omega (arith, div-add-mod' c.args.n c.args.f, c.if-n-f-eq0.false)

pub returns : goal.returns
unfolding fewest
returns c = let h : 0 < c.args.n = omega (arith, c.if-n-lt1.false) in
    rw (lt-ltb 0 c.args.n h, ne_eqb _ 0 c.if-n-f-eq0.false)
