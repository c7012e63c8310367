-- `admission::decide_beside` meets its contract: each way out is one of the ways of proofs/Beside.antt. The cell that the search finds is over, so that the
-- excess does not wrap; where it finds none the loads pass, and the clash rows and what the loads leave state the site's problem. Assumes nothing.
use Prim.Native.Nat.{ℕ}
use mathlib.Core.Path.{◌≡◌, refl, sym, ap, ◌∙◌}
use native.Mathlib.Omega.{arith}
use lib.ListN.{get_or}
use Rattle.std.specs.Prelude.{Ok}
use Rattle.site.specs.Record.{fault_of}
use Rattle.site.specs.Reach.{clash_of}
use Rattle.chainwords.proofs.Rows.{mirrored-by}
use Rattle.site.proofs.Reach.{clash-sym}
use Rattle.site.proofs.Faults.{fine-sized, few-positions}
use Rattle.flowlist.specs.List.{zero_flow}
use Rattle.flowlist.specs.declared.Flow.{Flow}
use Rattle.flowlist.specs.declared.FlowList.{FlowList}
use Rattle.admission.specs.Beside.{as_beside}
use Rattle.admission.proofs.Beside.{many-beside, outside-beside}
use Rattle.admission.proofs.OnTop.{class_said, over_most, over_named, rooms_few, on-top}
use Rattle.admission.proofs.decide_beside.Goals as goal

-- the flows that are here, by place
abbrev here : FlowList → ℕ → Flow
here l k = get_or l.list k zero_flow

pub returns-then-count-gt16 : goal.returns-then-count-gt16
returns-then-count-gt16 c =
    let fine : fault_of c.args.site ≡ Ok tt = sym c.accepted.ensures ∙ c.in_ok-accepted.was in
    let a = c.args in
    sym (many-beside a.site (here a.l) a.count fine c.if-count-gt16.true)

pub nested-requires : goal.nested-requires
nested-requires c =
    let fine : fault_of c.args.site ≡ Ok tt = sym c.accepted.ensures ∙ c.in_ok-accepted.was in
    let site = c.args.site in (
      (fine-sized site fine).cells_most,
      mirrored-by c.clash_rows-clash.result (clash_of site) (c.clash_rows-clash.ensures.clash fine) (clash-sym site.rule site.reach),
    )

pub returns-then-not-nested : goal.returns-then-not-nested
returns-then-not-nested c =
    let fine : fault_of c.args.site ≡ Ok tt = sym c.accepted.ensures ∙ c.in_ok-accepted.was in
    let clash = c.clash_rows-clash.ensures.clash fine in
    let a = c.args in
    sym (outside-beside a.site (here a.l) a.count fine c.if-count-gt16.false
    (class_said a.site c.clash_rows-clash.result clash _ _ c.nested.ensures c.if-not-nested.true))

pub overflow_mul-n : goal.overflow_mul-n
overflow_mul-n c =
    let fine : fault_of c.args.site ≡ Ok tt = sym c.accepted.ensures ∙ c.in_ok-accepted.was in
    omega (arith, few-positions (fine-sized _ fine))

pub open_room-room-requires : goal.open_room-room-requires
open_room-room-requires c =
    let fine : fault_of c.args.site ≡ Ok tt = sym c.accepted.ensures ∙ c.in_ok-accepted.was in
    few-positions (fine-sized _ fine)

pub rooms_beside-i-requires : goal.rooms_beside-i-requires
rooms_beside-i-requires c =
    let fine : fault_of c.args.site ≡ Ok tt = sym c.accepted.ensures ∙ c.in_ok-accepted.was in
    ((fine-sized _ fine).cells_most, refl)

pub bounds-clash-i : goal.bounds-clash-i
bounds-clash-i c =
    let fine : fault_of c.args.site ≡ Ok tt = sym c.accepted.ensures ∙ c.in_ok-accepted.was in
    omega (arith, c.if-i-cells.true, (fine-sized _ fine).cells_most)

pub demand-d-requires : goal.demand-d-requires
demand-d-requires c =
    let fine : fault_of c.args.site ≡ Ok tt = sym c.accepted.ensures ∙ c.in_ok-accepted.was in
    omega (arith, c.if-i-cells.true, (fine-sized _ fine).cells_most)

pub overflow_sub-result : goal.overflow_sub-result
overflow_sub-result c =
    let fine : fault_of c.args.site ≡ Ok tt = sym c.accepted.ensures ∙ c.in_ok-accepted.was in
    let clash = c.clash_rows-clash.ensures.clash fine in
    let class = class_said c.args.site c.clash_rows-clash.result clash _ _ c.nested.ensures c.if-not-nested.false in
    over_most c.args.site fine class c.clash_rows-clash.result clash c.open_room-room.result c.open_room-room.ensures.0
    c.rooms_beside-i.result c.rooms_beside-i.ensures.over c.if-i-cells.true c.demand-d.result c.demand-d.ensures

pub returns-then-i-cells : goal.returns-then-i-cells
returns-then-i-cells c =
    let fine : fault_of c.args.site ≡ Ok tt = sym c.accepted.ensures ∙ c.in_ok-accepted.was in
    let clash = c.clash_rows-clash.ensures.clash fine in
    let class = class_said c.args.site c.clash_rows-clash.result clash _ _ c.nested.ensures c.if-not-nested.false in
    sym (over_named c.args.site fine class c.clash_rows-clash.result clash c.open_room-room.result c.open_room-room.ensures.0
    c.rooms_beside-i.result c.rooms_beside-i.ensures.over c.if-i-cells.true c.demand-d.result c.demand-d.ensures
    (here c.args.l) c.args.count c.if-count-gt16.false)

pub chosen-requires : goal.chosen-requires
chosen-requires c =
    let fine : fault_of c.args.site ≡ Ok tt = sym c.accepted.ensures ∙ c.in_ok-accepted.was in
    let clash = c.clash_rows-clash.ensures.clash fine in
    let class = class_said c.args.site c.clash_rows-clash.result clash _ _ c.nested.ensures c.if-not-nested.false in
    let sized = fine-sized _ fine in record {
      count_bound = (c.if-count-gt16.false, sized.cells_some, sized.cells_most);
      by_index = rooms_few c.args.site fine class c.clash_rows-clash.result clash c.open_room-room.result c.open_room-room.ensures.0
          c.rooms_beside-i.result c.rooms_beside-i.ensures.over
          c.if-i-cells.false c.rooms_beside-i.new.rooms c.rooms_beside-i.ensures.rooms c.open_room-room.ensures.1;
    }

pub returns : goal.returns
returns c =
    let fine : fault_of c.args.site ≡ Ok tt = sym c.accepted.ensures ∙ c.in_ok-accepted.was in
    let clash = c.clash_rows-clash.ensures.clash fine in
    let class = class_said c.args.site c.clash_rows-clash.result clash _ _ c.nested.ensures c.if-not-nested.false in
    c.as_beside.ensures
    ∙ ap as_beside c.chosen.ensures
    ∙ on-top c.args.site fine class c.clash_rows-clash.result clash c.open_room-room.result c.open_room-room.ensures.0
    c.rooms_beside-i.result c.rooms_beside-i.ensures.over
    c.if-i-cells.false c.rooms_beside-i.new.rooms c.rooms_beside-i.ensures.rooms c.clash_rows-clash.ensures.rows
    (here c.args.l) c.args.count c.if-count-gt16.false
