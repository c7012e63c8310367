-- `sheet::read_sheet` meets its contract: the first line, then those of the cells. Assumes nothing.
use native.Mathlib.Omega.{arith}
use Prim.Native.Nat.{◌≤◌, ◌<◌}
use mathlib.Core.Path.{◌≡◌, ◌∙◌}
use lib.ListN.{length, drop}
use Rattle.lines.specs.Match.{nowhere}
use Rattle.lines.specs.Content.{cells_of_line}
use Rattle.lines.proofs.Heads.{head-good, head-is, cells-few}
use Rattle.sheet.specs.Read.{cells_read, read_sheet}
use Rattle.sheet.proofs.Reading.{first-bad, first_good}
use Rattle.sheet.proofs.read_sheet.Goals as goal

pub returns-then-at : goal.returns-then-at
returns-then-at c =
    let shorter : length c.args.bytes.now < nowhere = omega arith in
    c.bad_at.ensures
    ∙ first-bad _ _ _ _ _ shorter c.read_head-h.result c.read_head-h.ensures
    c.if-at.true

pub read_cells-requires : goal.read_cells-requires
read_cells-requires c =
    let shorter : length c.args.bytes.now < nowhere = omega arith in
    let good : let b = c.args.bytes.now in let h = c.read_head-h.result in let a = c.args in (h.cells ≡ cells_of_line b) ×
    (cells_read h.cells (drop h.next b) a.slots a.channels a.blocked a.rule
    ≡ read_sheet b a.slots a.channels a.blocked a.rule) = first_good _ _ _ _ _ shorter c.read_head-h.result c.read_head-h.ensures c.if-at.false in
    let some : 1 ≤ cells_of_line c.args.bytes.now = let b = c.args.bytes.now in
    (head-is b (head-good b shorter c.read_head-h.result c.read_head-h.ensures c.if-at.false).0).0 in
    let e = good.0 in
    (omega (arith, e, some), omega (arith, e, cells-few c.args.bytes.now))

pub returns : goal.returns
returns c =
    let shorter : length c.args.bytes.now < nowhere = omega arith in
    let good : let b = c.args.bytes.now in let h = c.read_head-h.result in let a = c.args in (h.cells ≡ cells_of_line b) ×
    (cells_read h.cells (drop h.next b) a.slots a.channels a.blocked a.rule
    ≡ read_sheet b a.slots a.channels a.blocked a.rule) = first_good _ _ _ _ _ shorter c.read_head-h.result c.read_head-h.ensures c.if-at.false in
    c.read_cells.ensures ∙ good.1
