-- `say_flows::put_nineteen` meets its contract: what the searches find is put into the definition; where they end bounds them. Assumes nothing.
use mathlib.Core.Path.{◌≡◌, sym}
use native.Mathlib.Omega.{arith}
use Rattle.std.specs.Prelude.{Ok}
use Rattle.site.specs.Record.{fault_of}
use Rattle.site.proofs.Faults.{fine-sized}
use Rattle.say_flows.proofs.Outside.{fault-found, a-range, b-below, outside-found, none_found}
use Rattle.say_flows.proofs.put_nineteen.Goals as goal

pub returns-in_default : goal.returns-in_default
returns-in_default c = rw (fault-found c.args.site c.in_default.field-0 (sym c.in_default.ensures)) c.put_refused.ensures

pub first_split-i-requires : goal.first_split-i-requires
first_split-i-requires c = (fine-sized _ (sym c.in-Ok.ensures)).cells_most

pub split_of-a-requires : goal.split_of-a-requires
split_of-a-requires c = omega (arith, (fine-sized _ (sym c.in-Ok.ensures)).cells_most, c.if-i-cells.true)

pub offset_bounds-clash-a : goal.offset_bounds-clash-a
offset_bounds-clash-a c =
    let fine : fault_of c.args.site ≡ Ok tt = sym c.in-Ok.ensures in
    let in_row = a-range _ fine _ (c.clash_rows-clash.ensures.clash fine) _ c.first_split-i.ensures c.if-i-cells.true _ c.split_of-a.ensures in
    omega (arith, in_row)

pub bounds-clash-a : goal.bounds-clash-a
bounds-clash-a c =
    let fine : fault_of c.args.site ≡ Ok tt = sym c.in-Ok.ensures in
    let in_row = a-range _ fine _ (c.clash_rows-clash.ensures.clash fine) _ c.first_split-i.ensures c.if-i-cells.true _ c.split_of-a.ensures in
    omega (arith, in_row)

pub bounds-clash-i : goal.bounds-clash-i
bounds-clash-i c = omega (arith, (fine-sized _ (sym c.in-Ok.ensures)).cells_most, c.if-i-cells.true)

pub gap-b-requires : goal.gap-b-requires
gap-b-requires c =
    let fine : fault_of c.args.site ≡ Ok tt = sym c.in-Ok.ensures in
    let in_row = a-range _ fine _ (c.clash_rows-clash.ensures.clash fine) _ c.first_split-i.ensures c.if-i-cells.true _ c.split_of-a.ensures in
    omega (arith, in_row)

pub overflow_add-a : goal.overflow_add-a
overflow_add-a c =
    let fine : fault_of c.args.site ≡ Ok tt = sym c.in-Ok.ensures in
    let in_row = a-range _ fine _ (c.clash_rows-clash.ensures.clash fine) _ c.first_split-i.ensures c.if-i-cells.true _ c.split_of-a.ensures in
    omega (arith, in_row)

pub overflow_add-b : goal.overflow_add-b
overflow_add-b c =
    let fine : fault_of c.args.site ≡ Ok tt = sym c.in-Ok.ensures in
    let here = (fine-sized _ fine).cells_most in
    let low = b-below _ fine _ (c.clash_rows-clash.ensures.clash fine) _ c.first_split-i.ensures c.if-i-cells.true _ c.split_of-a.ensures _ c.gap-b.ensures in
    omega (arith, low, here, c.if-i-cells.true)

pub returns-then-i-cells : goal.returns-then-i-cells
returns-then-i-cells c =
    let fine : fault_of c.args.site ≡ Ok tt = sym c.in-Ok.ensures in
    rw (outside-found _ fine _ (c.clash_rows-clash.ensures.clash fine) _ c.first_split-i.ensures c.if-i-cells.true _ c.split_of-a.ensures _ c.gap-b.ensures)
    c.put_split.ensures

pub returns : goal.returns
returns c =
    let fine : fault_of c.args.site ≡ Ok tt = sym c.in-Ok.ensures in
    rw (none_found _ fine _ (c.clash_rows-clash.ensures.clash fine) _ c.first_split-i.ensures c.if-i-cells.false) c.put_refused-2.ensures
