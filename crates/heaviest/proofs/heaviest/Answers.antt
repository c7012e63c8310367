-- `heaviest::heaviest` meets its contract: both searches start with no cell decided, the second below the load that the first met, and over the arrays it is
-- the one over the site. Assumes nothing.
use mathlib.Core.Path.{◌≡◌, sym}
use Rattle.std.specs.Prelude.{Ok}
use Rattle.laws.specs.Bits.{bit_in}
use Rattle.site.specs.Record.{fault_of}
use Rattle.heaviest.proofs.Mutual.{empty-mutual}
use Rattle.heaviest.proofs.Whole.{starts, answered}
use Rattle.heaviest.proofs.heaviest.Goals as goal

pub dive-seed-requires : goal.dive-seed-requires
dive-seed-requires c =
    let ok : fault_of c.args.site ≡ Ok tt = sym c.in_ok-accepted.ensures in
    let word = c.loaded-left in record {
      search_ready = starts _ ok c.clash_rows-clash.result (c.clash_rows-clash.ensures.clash ok) 0 word.result word.ensures;
      set_value = empty-mutual (bit_in c.clash_rows-clash.result) 32;
    }

pub search-found-requires : goal.search-found-requires
search-found-requires c =
    let ok : fault_of c.args.site ≡ Ok tt = sym c.in_ok-accepted.ensures in
    let word = c.loaded-left in
    starts _ ok c.clash_rows-clash.result (c.clash_rows-clash.ensures.clash ok) c.under-bar.result word.result word.ensures

pub returns : goal.returns
returns c =
    let ok : fault_of c.args.site ≡ Ok tt = sym c.in_ok-accepted.ensures in
    let seed = c.dive-seed in
    let bar = c.under-bar in
    answered _ ok c.clash_rows-clash.result (c.clash_rows-clash.ensures.clash ok) seed.result.set seed.result.worth bar.result c.search-found.result.set
    c.search-found.result.worth
    seed.ensures bar.ensures c.search-found.ensures.set c.search-found.ensures.worth
