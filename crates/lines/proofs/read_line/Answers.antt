-- `lines::read_line` meets its contract: label, load, marks and line end, each eaten after the other; where one is not there the whole line is not.
-- Assumes nothing.
use native.Mathlib.Omega.{arith}
use Prim.Native.Nat.{◌<◌}
use mathlib.Core.Path.{◌≡◌, ◌∙◌}
use lib.ListN.{length}
use Rattle.lines.specs.Match.{nowhere, eaten}
use Rattle.lines.specs.Format.{label}
use Rattle.lines.proofs.Steps.{label-eaten, no_label, value-is, no_load, load_fits, no_end-law, whole-line}
use Rattle.lines.proofs.read_line.Goals as goal

pub returns-then-a : goal.returns-then-a
returns-then-a c =
    let short : length c.args.s.now < nowhere = omega arith in
    let labelled : let a = c.args in c.eat-a.result ≡ eaten a.s.now a.at (label a.k) = let a = c.args in
    label-eaten a.s.now a.at a.n a.k short _ _ c.eat_number-digits.ensures c.eat-a.ensures in
    no_label _ _ _ _ short _ labelled c.if-a.true

pub returns-then-b : goal.returns-then-b
returns-then-b c =
    let short : length c.args.s.now < nowhere = omega arith in
    let labelled : let a = c.args in c.eat-a.result ≡ eaten a.s.now a.at (label a.k) = let a = c.args in
    label-eaten a.s.now a.at a.n a.k short _ _ c.eat_number-digits.ensures c.eat-a.ensures in
    no_load _ _ _ _ short _ labelled c.if-a.false c.read_number-v.result
    c.read_number-v.ensures c.if-b.true

pub returns-then-end : goal.returns-then-end
returns-then-end c =
    let short : length c.args.s.now < nowhere = omega arith in
    let labelled : let a = c.args in c.eat-a.result ≡ eaten a.s.now a.at (label a.k) = let a = c.args in
    label-eaten a.s.now a.at a.n a.k short _ _ c.eat_number-digits.ensures c.eat-a.ensures in
    no_end-law _ _ _ _ short _ labelled c.if-a.false c.read_number-v.result c.read_number-v.ensures
    c.if-b.false
    c.read_marks-m.result c.read_marks-m.ensures c.eat-cr.result c.eat-end.result c.eat-cr.ensures c.eat-end.ensures
    c.if-end.true

pub overflow_cast-result : goal.overflow_cast-result
overflow_cast-result c =
    let short : length c.args.s.now < nowhere = omega arith in
    let labelled : let a = c.args in c.eat-a.result ≡ eaten a.s.now a.at (label a.k) = let a = c.args in
    label-eaten a.s.now a.at a.n a.k short _ _ c.eat_number-digits.ensures c.eat-a.ensures in
    let h = load_fits _ _ c.args.n _ short _ labelled
    c.if-a.false c.read_number-v.result c.read_number-v.ensures c.if-b.false in
    omega (
      arith,
      h,
      value-is _ _ c.args.n _ short _ labelled c.if-a.false
          c.read_number-v.result c.read_number-v.ensures,
    )

pub returns : goal.returns
returns c =
    let short : length c.args.s.now < nowhere = omega arith in
    let labelled : let a = c.args in c.eat-a.result ≡ eaten a.s.now a.at (label a.k) = let a = c.args in
    label-eaten a.s.now a.at a.n a.k short _ _ c.eat_number-digits.ensures c.eat-a.ensures in
    whole-line _ _ _ _ short _ labelled c.if-a.false c.read_number-v.result c.read_number-v.ensures
    c.if-b.false
    c.read_marks-m.result c.read_marks-m.ensures c.eat-cr.result c.eat-end.result c.eat-cr.ensures c.eat-end.ensures
    c.if-end.false
