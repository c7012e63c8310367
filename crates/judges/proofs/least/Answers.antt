-- `judges::least` meets its contract: the greatest of what the rows ask is the greatest demand, and the search over the rows says
-- whether the site is in the class.
-- Assumes nothing.
use mathlib.Core.Path.{◌≡◌, sym}
use Rattle.std.specs.Prelude.{Ok}
use Rattle.site.specs.Record.{fault_of}
use Rattle.judges.proofs.Laws.{least-enough, least-exact}
use Rattle.judges.proofs.least.Goals as goal

pub returns-then-first_split-cells : goal.returns-then-first_split-cells
returns-then-first_split-cells c =
    let fine : fault_of c.args.site ≡ Ok tt = sym c.in_ok-accepted.ensures in
    sym (least-enough _ fine c.clash_rows-clash.result (c.clash_rows-clash.ensures.clash fine) c.loaded-who.result c.loaded-who.ensures
    c.most_demand-n.result c.most_demand-n.ensures c.first_split.result c.first_split.ensures c.if-first_split-cells.true)

pub returns : goal.returns
returns c =
    let fine : fault_of c.args.site ≡ Ok tt = sym c.in_ok-accepted.ensures in
    sym (least-exact _ fine c.clash_rows-clash.result (c.clash_rows-clash.ensures.clash fine) c.loaded-who.result c.loaded-who.ensures
    c.most_demand-n.result c.most_demand-n.ensures c.first_split.result c.first_split.ensures c.if-first_split-cells.false)
