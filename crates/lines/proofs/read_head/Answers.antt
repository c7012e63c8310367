-- `lines::read_head` meets its contract: the first words, the columns and the line end. Assumes nothing.
use native.Mathlib.Omega.{arith}
use Prim.Native.Nat.{◌<◌}
use mathlib.Core.Path.{◌≡◌, ◌∙◌}
use lib.ListN.{length}
use Rattle.lines.specs.Match.{nowhere, eaten}
use Rattle.lines.specs.Format.{cell_load}
use Rattle.lines.proofs.Heads.{no-begin, no_cells, no-head-end, whole-head}
use Rattle.lines.proofs.read_head.Goals as goal

pub returns-then-a : goal.returns-then-a
returns-then-a c =
    let short : length c.args.s.now < nowhere = omega arith in
    let begun : c.eat_text-a.result ≡ eaten c.args.s.now 0 cell_load = c.eat_text-a.ensures in
    c.no_head.ensures ∙ no-begin _ short _ begun c.if-a.true

pub returns-then-h-lt1 : goal.returns-then-h-lt1
returns-then-h-lt1 c =
    let short : length c.args.s.now < nowhere = omega arith in
    let begun : c.eat_text-a.result ≡ eaten c.args.s.now 0 cell_load = c.eat_text-a.ensures in
    c.no_head-then-h-lt1.ensures ∙ no_cells _ short _ begun c.if-a.false c.read_columns-h.result
    c.read_columns-h.ensures c.if-h-lt1.true

pub returns-then-end : goal.returns-then-end
returns-then-end c =
    let short : length c.args.s.now < nowhere = omega arith in
    let begun : c.eat_text-a.result ≡ eaten c.args.s.now 0 cell_load = c.eat_text-a.ensures in
    c.no_head-then-end.ensures
    ∙ no-head-end _ short _ begun c.if-a.false c.read_columns-h.result c.read_columns-h.ensures
    _ _ c.eat-cr.ensures c.eat-end.ensures c.if-end.true

pub returns : goal.returns
returns c =
    let short : length c.args.s.now < nowhere = omega arith in
    let begun : c.eat_text-a.result ≡ eaten c.args.s.now 0 cell_load = c.eat_text-a.ensures in
    whole-head _ short _ begun c.if-a.false c.read_columns-h.result c.read_columns-h.ensures
    _ _ c.eat-cr.ensures c.eat-end.ensures c.if-h-lt1.false c.if-end.false
