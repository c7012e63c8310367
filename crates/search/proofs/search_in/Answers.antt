-- `search::search_in` meets its contract: nothing is written before the lists are found to be short enough, and the site's part is idle before the search.
-- Assumes nothing.
use mathlib.Core.Path.{◌≡◌, ap, ◌∙◌}
use mathlib.Core.Bool.{false}
use Prim.Native.Nat.{◌*◌, ◌≤◌}
use native.Mathlib.Omega.{arith}
use lib.ListN.{length, take, replicate}
use lib.Seq.{length-take-le}
use Rattle.theory.specs.Net.{Net}
use Rattle.tries.specs.Search.{open_list, fragments}
use Rattle.laws.specs.Bits.{bit_in}
use Rattle.site.specs.Reach.{net_in, is_open}
use Rattle.search.specs.Search.{too_large}
use Rattle.search.proofs.Call.{cells-ok, once-ok, spots-ok, over-fragments, over-opens, within, many-reply, many-table, found-reply, found-table}
use Rattle.search.proofs.search_in.Goals as goal

pub returns-then-count-gt24 : goal.returns-then-count-gt24
returns-then-count-gt24 c = let a = c.args in
    let s : Net = net_in a.cells a.n a.loads (bit_in a.clash.now) (is_open a.blocked.now) in
    let e = over-fragments s (c.list_fragments-fragments.ensures.over c.if-count-gt24.true) in record {
      answer = many-reply s a.limit a.table.now e;
      table = many-table s a.limit a.table.now e;
    }

pub returns-then-many-gt64 : goal.returns-then-many-gt64
returns-then-many-gt64 c = let a = c.args in
    let s : Net = net_in a.cells a.n a.loads (bit_in a.clash.now) (is_open a.blocked.now) in
    let e = over-opens s (c.list_opens-opens.ensures.over c.if-many-gt64.true) in record {
      answer = many-reply s a.limit a.table.now e;
      table = many-table s a.limit a.table.now e;
    }

pub settle-requires : goal.settle-requires
settle-requires c =
    let is-owners : (take c.list_fragments-fragments.result.count c.list_fragments-fragments.result.owner) ≡ fragments
    (net_in c.args.cells c.args.n c.args.loads (bit_in c.args.clash.now)
    (is_open c.args.blocked.now)) = c.list_fragments-fragments.ensures.all c.if-count-gt24.false in
    let is-spots : (take c.list_opens-opens.result.count c.list_opens-opens.result.at) ≡ open_list
    (net_in c.args.cells c.args.n c.args.loads (bit_in c.args.clash.now)
    (is_open c.args.blocked.now)) = c.list_opens-opens.ensures.all c.if-many-gt64.false in
    let big : c.args.cells * c.args.n ≤ length (c.args.table.now) = c.requires.2 in
    let idle : c.clear.new.bytes ≡ replicate (c.args.cells * c.args.n) 0 = c.clear.ensures ∙ ap (λ m. replicate m 0)
    (length-take-le (c.args.cells * c.args.n) (c.args.table.now) big) in
    let few-owners : length (take c.list_fragments-fragments.result.count c.list_fragments-fragments.result.owner) ≤ 24 = let f = c.list_fragments-fragments in
    omega (
      arith,
      c.if-count-gt24.false,
      length-take-le f.result.count f.result.owner
          (omega (arith, c.if-count-gt24.false, f.ensures.size)),
    ) in
    let few-spots : length (take c.list_opens-opens.result.count c.list_opens-opens.result.at) ≤ 64 = let p = c.list_opens-opens in
    omega (
      arith,
      c.if-many-gt64.false,
      length-take-le p.result.count p.result.at
          (omega (arith, c.if-many-gt64.false, p.ensures.size)),
    ) in
    let zeros = c.clear.new.bytes in record {
      owner_len_bound = (few-owners, few-spots);
      owned = cells-ok
          (net_in c.args.cells c.args.n c.args.loads (bit_in c.args.clash.now) (is_open c.args.blocked.now))
          (take c.list_fragments-fragments.result.count c.list_fragments-fragments.result.owner)
          (take c.list_opens-opens.result.count c.list_opens-opens.result.at) zeros (c.args.table.now) is-owners is-spots idle big c.requires.0;
      distinct = once-ok (net_in c.args.cells c.args.n c.args.loads (bit_in c.args.clash.now) (is_open c.args.blocked.now))
          (take c.list_fragments-fragments.result.count c.list_fragments-fragments.result.owner)
          (take c.list_opens-opens.result.count c.list_opens-opens.result.at) zeros (c.args.table.now) is-owners is-spots idle big;
      spots = spots-ok (net_in c.args.cells c.args.n c.args.loads (bit_in c.args.clash.now) (is_open c.args.blocked.now))
          (take c.list_fragments-fragments.result.count c.list_fragments-fragments.result.owner)
          (take c.list_opens-opens.result.count c.list_opens-opens.result.at) zeros
          (c.args.table.now) is-owners is-spots idle big;
    }

pub returns : goal.returns
returns c =
    let is-owners : (take c.list_fragments-fragments.result.count c.list_fragments-fragments.result.owner) ≡ fragments
    (net_in c.args.cells c.args.n c.args.loads (bit_in c.args.clash.now)
    (is_open c.args.blocked.now)) = c.list_fragments-fragments.ensures.all c.if-count-gt24.false in
    let is-spots : (take c.list_opens-opens.result.count c.list_opens-opens.result.at) ≡ open_list
    (net_in c.args.cells c.args.n c.args.loads (bit_in c.args.clash.now)
    (is_open c.args.blocked.now)) = c.list_opens-opens.ensures.all c.if-many-gt64.false in
    let big : c.args.cells * c.args.n ≤ length (c.args.table.now) = c.requires.2 in
    let idle : c.clear.new.bytes ≡ replicate (c.args.cells * c.args.n) 0 = c.clear.ensures ∙ ap (λ m. replicate m 0)
    (length-take-le (c.args.cells * c.args.n) (c.args.table.now) big) in
    let few-owners : length (take c.list_fragments-fragments.result.count c.list_fragments-fragments.result.owner) ≤ 24 = let f = c.list_fragments-fragments in
    omega (
      arith,
      c.if-count-gt24.false,
      length-take-le f.result.count f.result.owner
          (omega (arith, c.if-count-gt24.false, f.ensures.size)),
    ) in
    let few-spots : length (take c.list_opens-opens.result.count c.list_opens-opens.result.at) ≤ 64 = let p = c.list_opens-opens in
    omega (
      arith,
      c.if-many-gt64.false,
      length-take-le p.result.count p.result.at
          (omega (arith, c.if-many-gt64.false, p.ensures.size)),
    ) in
    let few : too_large (net_in c.args.cells c.args.n c.args.loads (bit_in c.args.clash.now) (is_open c.args.blocked.now)) ≡ false = within
    (net_in c.args.cells c.args.n c.args.loads (bit_in c.args.clash.now) (is_open c.args.blocked.now)) (omega (arith, few-owners, ap length is-owners))
    (omega (arith, few-spots, ap length is-spots)) in
    let limit = c.args.limit in record {
      answer = found-reply (net_in c.args.cells c.args.n c.args.loads (bit_in c.args.clash.now) (is_open c.args.blocked.now)) limit (c.args.table.now)
          (take c.list_fragments-fragments.result.count c.list_fragments-fragments.result.owner)
          (take c.list_opens-opens.result.count c.list_opens-opens.result.at) is-owners is-spots few c.settle.result c.settle.ensures.answer;
      table = found-table (net_in c.args.cells c.args.n c.args.loads (bit_in c.args.clash.now) (is_open c.args.blocked.now)) limit (c.args.table.now)
          (take c.list_fragments-fragments.result.count c.list_fragments-fragments.result.owner)
          (take c.list_opens-opens.result.count c.list_opens-opens.result.at) is-owners is-spots few c.clear.new.bytes c.settle.new.table idle
          c.settle.ensures.table;
    }
