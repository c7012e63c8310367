-- `judges::chain` meets its contract: the callees' results are put into the definition; where the searches end bounds them. Assumes nothing.
use mathlib.Core.Path.{◌≡◌, sym}
use native.Mathlib.Omega.{arith}
use Rattle.std.specs.Prelude.{Ok}
use Rattle.site.specs.Record.{fault_of}
use Rattle.judges.proofs.Laws.{accepted_cells, break_range, gap_range, chain-broken, chain-none}
use Rattle.judges.proofs.chain.Goals as goal

pub gap-b-requires : goal.gap-b-requires
gap-b-requires c =
    let fine : fault_of c.args.site ≡ Ok tt = sym c.in_ok-accepted.ensures in
    let few = accepted_cells c.args.site fine in
    let h = break_range c.clash_rows-clash.result c.loaded-who.result _ _ _ c.first_break-a.ensures c.if-a-cells.true c.break_of-c.ensures in
    (h.0, omega (arith, few, h.1))

pub overflow_add-result-then-a-cells : goal.overflow_add-result-then-a-cells
overflow_add-result-then-a-cells c =
    let fine : fault_of c.args.site ≡ Ok tt = sym c.in_ok-accepted.ensures in
    let few = accepted_cells c.args.site fine in
    let h = break_range c.clash_rows-clash.result c.loaded-who.result _ _ _ c.first_break-a.ensures c.if-a-cells.true c.break_of-c.ensures in
    let b-most = gap_range _ _ _ _ _ h.0 c.gap-b.ensures in
    omega (arith, few, h.1, b-most)

pub overflow_add-result-then-a-cells-2 : goal.overflow_add-result-then-a-cells-2
overflow_add-result-then-a-cells-2 c =
    let fine : fault_of c.args.site ≡ Ok tt = sym c.in_ok-accepted.ensures in
    let few = accepted_cells c.args.site fine in
    let h = break_range c.clash_rows-clash.result c.loaded-who.result _ _ _ c.first_break-a.ensures c.if-a-cells.true c.break_of-c.ensures in
    omega (arith, few, h.1)

pub returns-then-a-cells : goal.returns-then-a-cells
returns-then-a-cells c =
    let fine : fault_of c.args.site ≡ Ok tt = sym c.in_ok-accepted.ensures in
    sym (chain-broken _ fine c.clash_rows-clash.result (c.clash_rows-clash.ensures.clash fine) _ c.loaded-who.ensures _ c.first_break-a.ensures _ _
    c.if-a-cells.true c.break_of-c.ensures c.gap-b.ensures)

pub returns : goal.returns
returns c =
    let fine : fault_of c.args.site ≡ Ok tt = sym c.in_ok-accepted.ensures in
    sym (chain-none _ fine c.clash_rows-clash.result (c.clash_rows-clash.ensures.clash fine) _ c.loaded-who.ensures _ c.first_break-a.ensures
    c.if-a-cells.false)
