-- `sitehead::put_site_head` meets its contract: the head of kind 1, or the start of kind 5 and four numbers of two bytes, one after the other. Assumes nothing.
use mathlib.Core.Path.{◌≡◌}
use native.Mathlib.Omega.{arith}
use borrow.Author.Tests.{eq-eqb, ne_eqb}
use Rattle.sitehead.specs.Head.{head_length}
use Rattle.sitehead.proofs.put_site_head.Goals as goal

pub put_head-requires : goal.put_head-requires
put_head-requires c =
    let short : head_length c.args.rule ≡ 10 = rw (ne_eqb _ _ c.if-rule-ne2.true) in
    omega (arith, short, c.requires)

pub returns-then-rule-ne2 : goal.returns-then-rule-ne2
returns-then-rule-ne2 c = rw (c.put_head.ensures, ne_eqb _ _ c.if-rule-ne2.true)

pub put_start-requires : goal.put_start-requires
put_start-requires c =
    let long : head_length c.args.rule ≡ 12 = rw (eq-eqb _ _ c.if-rule-ne2.false) in
    omega (arith, long, c.requires)

pub put_two_bytes-requires : goal.put_two_bytes-requires
put_two_bytes-requires c =
    let long : head_length c.args.rule ≡ 12 = rw (eq-eqb _ _ c.if-rule-ne2.false) in
    omega (arith, long, c.requires, c.put_start.auto.out)

pub put_two_bytes-requires-2 : goal.put_two_bytes-requires-2
put_two_bytes-requires-2 c =
    let long : head_length c.args.rule ≡ 12 = rw (eq-eqb _ _ c.if-rule-ne2.false) in
    omega (arith, long, c.requires, c.put_start.auto.out, c.put_two_bytes.auto.out)

pub put_two_bytes-requires-3 : goal.put_two_bytes-requires-3
put_two_bytes-requires-3 c =
    let long : head_length c.args.rule ≡ 12 = rw (eq-eqb _ _ c.if-rule-ne2.false) in
    omega (arith, long, c.requires, c.put_start.auto.out, c.put_two_bytes.auto.out, c.put_two_bytes-2.auto.out)

pub put_two_bytes-requires-4 : goal.put_two_bytes-requires-4
put_two_bytes-requires-4 c =
    let long : head_length c.args.rule ≡ 12 = rw (eq-eqb _ _ c.if-rule-ne2.false) in
    omega (
      arith,
      long,
      c.requires,
      c.put_start.auto.out,
      c.put_two_bytes.auto.out,
      c.put_two_bytes-2.auto.out,
      c.put_two_bytes-3.auto.out,
    )

pub returns : goal.returns
returns c = rw (
  c.put_two_bytes-4.ensures,
  c.put_two_bytes-3.ensures,
  c.put_two_bytes-2.ensures,
  c.put_two_bytes.ensures,
  c.put_start.ensures,
  eq-eqb _ _ c.if-rule-ne2.false,
)
