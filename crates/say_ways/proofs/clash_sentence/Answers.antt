-- `say_ways::clash_sentence` meets its contract: a case for each way out. Assumes nothing.
use Prim.Native.Nat.{◌≤◌, ◌<◌}
use native.Mathlib.Nat.{div-le_self, mod-le}
use native.Mathlib.Omega.{arith}
use borrow.Author.Tests.{lt-ltb, le-ltb}
use Rattle.verdicts.specs.Said.{clash_sentence}
use Rattle.say_ways.proofs.clash_sentence.Goals as goal

pub returns-then-channels-lt1 : goal.returns-then-channels-lt1
unfolding clash_sentence
returns-then-channels-lt1 c = let h : c.args.site.channels ≤ 0 = omega (arith, c.if-channels-lt1.true) in
    rw (le-ltb 0 c.args.site.channels h)

pub returns-then-p-gt65535 : goal.returns-then-p-gt65535
unfolding clash_sentence
returns-then-p-gt65535 c = let some : 0 < c.args.site.channels = omega (arith, c.if-channels-lt1.false) in
    let far : 65536 ≤ c.args.p = omega (arith, c.if-p-gt65535.true) in
    rw (lt-ltb 0 c.args.site.channels some, le-ltb c.args.p 65536 far)

pub overflow_add-p : goal.overflow_add-p
overflow_add-p c = omega (arith, div-le_self c.args.p c.args.site.channels, c.if-p-gt65535.false)

pub overflow_add-p-2 : goal.overflow_add-p-2
overflow_add-p-2 c = omega (arith, mod-le c.args.p c.args.site.channels, c.if-p-gt65535.false)

pub returns : goal.returns
unfolding clash_sentence
returns c = let some : 0 < c.args.site.channels = omega (arith, c.if-channels-lt1.false) in
    let near : c.args.p < 65536 = omega (arith, c.if-p-gt65535.false) in
    rw (lt-ltb 0 c.args.site.channels some, lt-ltb c.args.p 65536 near)
    (rw (c.reaches-forth.ensures, c.reaches-back.ensures) at c.way_sentence.ensures)
