-- `say_loads::put_bar` meets its contract: the demand without the load is what the earlier cells send. Assumes nothing.
use native.Mathlib.Omega.{arith}
use Prim.Native.Nat.{◌-◌, ◌≤◌}
use mathlib.Core.Path.{◌≡◌}
use Rattle.theory.specs.Net.{lower}
use Rattle.site.specs.Reach.{net_of}
use Rattle.say_loads.proofs.Ready.{before-is, bar-ready, bar-put}
use Rattle.say_loads.proofs.put_bar.Goals as goal

pub put_parts-requires : goal.put_parts-requires
put_parts-requires c =
    let before : (c.wide-load.result ≤ c.demand-all.result) ×
    (c.demand-all.result - c.wide-load.result ≡ lower (net_of c.args.site) c.args.i) = before-is c.args.site c.requires.sized.0 c.args.clash
    c.requires.sized.1 c.args.i c.demand-all.result c.wide-load.result
    c.demand-all.ensures c.wide-load.ensures.0 in (
      bar-ready c.args.site c.args.i _ _ _ _ c.cell_middle-x.ensures c.wide-load.ensures.0 before.1 c.requires.sized.3 c.requires.i_lt_cells.0
          c.requires.sized.4,
      omega (arith, c.requires.i_lt_cells.1),
    )

pub returns : goal.returns
returns c =
    let before : (c.wide-load.result ≤ c.demand-all.result) ×
    (c.demand-all.result - c.wide-load.result ≡ lower (net_of c.args.site) c.args.i) = before-is c.args.site c.requires.sized.0 c.args.clash
    c.requires.sized.1 c.args.i c.demand-all.result c.wide-load.result
    c.demand-all.ensures c.wide-load.ensures.0 in
    bar-put c.args.site c.args.i _ _ _ _ c.cell_middle-x.ensures c.wide-load.ensures.0 before.1 c.requires.sized.3 _ _ _ _ c.args.free
    c.requires.sized.2 c.put_parts.ensures
