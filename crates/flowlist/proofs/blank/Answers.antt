use Rattle.std.proofs.Common.{rules}
use Rattle.flowlist.specs.List.{no_flows}
use Rattle.flowlist.proofs.blank.Goals as goal

pub returns : goal.returns
unfolding no_flows
returns c = search rules
