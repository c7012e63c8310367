-- `cleaning::field_at` meets its contract: where four bytes stand there, the first tells whether it has quotes. Assumes nothing.
use Prim.Native.Nat.{◌+◌, ◌≤◌, ◌<◌}
use lib.ListN.{length}
use native.Mathlib.Omega.{arith}
use borrow.Author.Tests.{eq-eqb, ne_eqb, le-leb, lt-leb}
use Rattle.cleaning.specs.Fields.{field_at}
use Rattle.cleaning.proofs.field_at.Goals as goal

pub returns-then-s-lt4 : goal.returns-then-s-lt4
unfolding field_at
returns-then-s-lt4 c = let a = c.args in
    let h : length a.s.now < a.i + 4 = omega arith in
    rw (lt-leb _ _ h)

pub returns-then-s-i : goal.returns-then-s-i
unfolding field_at
returns-then-s-i c = let a = c.args in
    let h : length a.s.now < a.i + 4 = omega arith in
    rw (lt-leb _ _ h)

pub returns-then-a-eq-QUOTE : goal.returns-then-a-eq-QUOTE
unfolding field_at
returns-then-a-eq-QUOTE c = let a = c.args in
    let h : a.i + 4 ≤ length a.s.now = omega arith in
    rw (le-leb _ _ h, eq-eqb _ _ c.if-a-eq-QUOTE.true) c.quoted_field.ensures

pub returns : goal.returns
unfolding field_at
returns c = let a = c.args in
    let h : a.i + 4 ≤ length a.s.now = omega arith in
    rw (le-leb _ _ h, ne_eqb _ _ c.if-a-eq-QUOTE.false) c.bare_field.ensures
