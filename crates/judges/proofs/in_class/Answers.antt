-- `judges::in_class` meets its contract: the callees' results are put into the definition; where the searches end bounds them. Assumes nothing.
use mathlib.Core.Path.{◌≡◌, sym}
use native.Mathlib.Omega.{arith}
use Rattle.std.specs.Prelude.{Ok}
use Rattle.site.specs.Record.{fault_of}
use Rattle.judges.proofs.Laws.{accepted_cells, split_range, gap_range, class-outside, class-none}
use Rattle.judges.proofs.in_class.Goals as goal

pub offset_bounds-clash-a : goal.offset_bounds-clash-a
offset_bounds-clash-a c =
    let fine : fault_of c.args.site ≡ Ok tt = sym c.in_ok-accepted.ensures in
    let few = accepted_cells c.args.site fine in
    let low = split_range c.clash_rows-clash.result c.loaded-who.result _ _ _ c.first_split-i.ensures c.if-i-cells.true c.split_of-a.ensures in
    omega (arith, few, low, c.if-i-cells.true)

pub bounds-clash-a : goal.bounds-clash-a
bounds-clash-a c =
    let fine : fault_of c.args.site ≡ Ok tt = sym c.in_ok-accepted.ensures in
    let few = accepted_cells c.args.site fine in
    let low = split_range c.clash_rows-clash.result c.loaded-who.result _ _ _ c.first_split-i.ensures c.if-i-cells.true c.split_of-a.ensures in
    omega (arith, few, low, c.if-i-cells.true)

pub overflow_add-result : goal.overflow_add-result
overflow_add-result c =
    let fine : fault_of c.args.site ≡ Ok tt = sym c.in_ok-accepted.ensures in
    let few = accepted_cells c.args.site fine in
    let low = split_range c.clash_rows-clash.result c.loaded-who.result _ _ _ c.first_split-i.ensures c.if-i-cells.true c.split_of-a.ensures in
    omega (arith, few, low, c.if-i-cells.true)

pub gap-b-requires : goal.gap-b-requires
gap-b-requires c =
    let fine : fault_of c.args.site ≡ Ok tt = sym c.in_ok-accepted.ensures in
    let few = accepted_cells c.args.site fine in
    let low = split_range c.clash_rows-clash.result c.loaded-who.result _ _ _ c.first_split-i.ensures c.if-i-cells.true c.split_of-a.ensures in
    (low, omega (arith, few, c.if-i-cells.true))

pub overflow_add-result-then-i-cells : goal.overflow_add-result-then-i-cells
overflow_add-result-then-i-cells c =
    let fine : fault_of c.args.site ≡ Ok tt = sym c.in_ok-accepted.ensures in
    let few = accepted_cells c.args.site fine in
    let low = split_range c.clash_rows-clash.result c.loaded-who.result _ _ _ c.first_split-i.ensures c.if-i-cells.true c.split_of-a.ensures in
    let b-most = gap_range _ _ _ _ _ low c.gap-b.ensures in
    omega (arith, few, c.if-i-cells.true, b-most)

pub returns-then-i-cells : goal.returns-then-i-cells
returns-then-i-cells c =
    let fine : fault_of c.args.site ≡ Ok tt = sym c.in_ok-accepted.ensures in
    sym (class-outside _ fine c.clash_rows-clash.result (c.clash_rows-clash.ensures.clash fine) _ c.loaded-who.ensures _ c.first_split-i.ensures _ _
    c.if-i-cells.true c.split_of-a.ensures c.gap-b.ensures)

pub returns : goal.returns
returns c =
    let fine : fault_of c.args.site ≡ Ok tt = sym c.in_ok-accepted.ensures in
    sym (class-none _ fine c.clash_rows-clash.result (c.clash_rows-clash.ensures.clash fine) _ c.loaded-who.ensures _ c.first_split-i.ensures
    c.if-i-cells.false)
