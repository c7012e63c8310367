-- `oneway::two_way` meets its contract: the rows are those of the definition, and nothing else is changed. Assumes nothing.
use mathlib.Core.Path.{ap}
use mathlib.Core.List.{List}
use Prim.Native.Nat.{ℕ}
use Rattle.site.specs.Record.{site_of}
use Rattle.oneway.specs.TwoWay.{two_way}
use Rattle.oneway.proofs.two_way.Goals as goal

pub returns : goal.returns
unfolding two_way
returns c = let s = c.args.site in
    ap (λ (reach : List ℕ). site_of s.cells s.slots s.channels s.loads reach s.blocked s.rule) c.both_ways-rows.ensures
