use mathlib.Core.Path.{ap}
use mathlib.Core.List.{List}
use Rattle.flowlist.specs.List.{no_flows}
use Rattle.flowlist.specs.declared.Flow.{Flow}
use Rattle.flowlist.proofs.empty.Goals as goal

pub returns : goal.returns
unfolding no_flows
returns c = ap (λ (xs : List Flow). record { list = xs; count = 0 }) c.blank-list.ensures
