-- `judges::load_test` meets its contract: the cell that the search finds is over, so that the excess does not wrap; the room is the
-- count of open positions. Assumes nothing.
use mathlib.Core.Path.{◌≡◌, sym, ◌∙◌}
use Prim.Native.Nat.{◌+◌, ◌-◌, ◌≤◌}
use native.Mathlib.Omega.{arith}
use Rattle.std.specs.Prelude.{Ok}
use Rattle.theory.specs.Net.{room, demand}
use Rattle.site.specs.Record.{fault_of}
use Rattle.site.specs.Reach.{net_of}
use Rattle.site.proofs.Accepted.{net-open}
use Rattle.judges.specs.Judges.{load_answer}
use Rattle.judges.specs.declared.LoadVerdict.TheVariants.{Over}
use Rattle.judges.proofs.Laws.{demand-is, load-over, load-none, over_room}
use Rattle.judges.proofs.load_test.Goals as goal

pub overflow_sub-result : goal.overflow_sub-result
overflow_sub-result c =
    let above = over_room c.args.site.loads c.clash_rows-clash.result c.loaded-who.result c.open_count-room.result c.args.site.cells _ _
    c.first_over-i.ensures c.if-i-cells.true c.demand-d.ensures in
    omega (arith, above)

pub returns-then-i-cells : goal.returns-then-i-cells
returns-then-i-cells c =
    let fine : fault_of c.args.site ≡ Ok tt = sym c.in_ok-accepted.ensures in
    let is-room : c.open_count-room.result ≡ room (net_of c.args.site) = c.open_count-room.ensures ∙ sym (net-open c.args.site) in
    let told : let open-ones = c.open_count-room.result in (open-ones ≤ c.demand-d.result) ×
    (load_answer c.args.site ≡ Ok (Over (c.first_over-i.result + 1) (c.demand-d.result - open-ones))) =
    let site = c.args.site in
    let rows = c.clash_rows-clash.result in
    let relation = c.clash_rows-clash.ensures.clash fine in
    let counted = c.loaded-who in
    let i = c.first_over-i.result in
    let d : c.demand-d.result ≡ demand (net_of site) i = c.demand-d.ensures ∙ demand-is site rows relation i in
    rw d (load-over site fine rows relation counted.result counted.ensures c.open_count-room.result is-room i c.first_over-i.ensures
    c.if-i-cells.true) in
    sym told.1

pub returns : goal.returns
returns c =
    let fine : fault_of c.args.site ≡ Ok tt = sym c.in_ok-accepted.ensures in
    let is-room : c.open_count-room.result ≡ room (net_of c.args.site) = c.open_count-room.ensures ∙ sym (net-open c.args.site) in
    sym (load-none c.args.site fine c.clash_rows-clash.result (c.clash_rows-clash.ensures.clash fine) c.loaded-who.result c.loaded-who.ensures
    c.open_count-room.result is-room _ c.first_over-i.ensures c.if-i-cells.false)
