-- `rooms::room_in` meets its contract: the callees' results are put into the definition; the room is the count of open positions. Assumes nothing.
use mathlib.Core.Path.{◌≡◌, sym, ◌∙◌}
use Rattle.theory.specs.Net.{room}
use Rattle.site.specs.Reach.{net_of}
use Rattle.site.proofs.Accepted.{net-open}
use Rattle.rooms.proofs.Words.{is-least, is-exact}
use Rattle.rooms.proofs.room_in.Goals as goal

pub returns-then-first_split-cells : goal.returns-then-first_split-cells
returns-then-first_split-cells c =
    let is-room : c.open_count-room.result ≡ room (net_of c.args.site) = c.open_count-room.ensures ∙ sym (net-open c.args.site) in
    is-least c.args.site c.requires.site_value c.clash_rows-clash.result (c.clash_rows-clash.ensures.clash c.requires.site_value) c.loaded-who.result
    c.loaded-who.ensures c.args.k c.open_count-room.result c.most_demand-most.result c.most_demand-touched.result
    is-room c.most_demand-most.ensures c.touched_cells-near.result c.touched_cells-near.ensures
    c.most_demand-touched.ensures c.left-more.result c.left-more.ensures c.with_bit-with.result c.with_bit-with.ensures
    c.first_split.result c.first_split.ensures c.if-first_split-cells.true

pub returns : goal.returns
returns c =
    let is-room : c.open_count-room.result ≡ room (net_of c.args.site) = c.open_count-room.ensures ∙ sym (net-open c.args.site) in
    is-exact c.args.site c.requires.site_value c.clash_rows-clash.result (c.clash_rows-clash.ensures.clash c.requires.site_value) c.loaded-who.result
    c.loaded-who.ensures c.args.k c.open_count-room.result c.most_demand-most.result c.most_demand-touched.result
    is-room c.most_demand-most.ensures c.touched_cells-near.result c.touched_cells-near.ensures
    c.most_demand-touched.ensures c.left-more.result c.left-more.ensures c.with_bit-with.result c.with_bit-with.ensures
    c.first_split.result c.first_split.ensures c.if-first_split-cells.false
