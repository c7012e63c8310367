-- `flowsheet::read_lines` meets its contract: the flows of what is left, from here, are the whole answer. Assumes nothing.
use Rattle.std.specs.Prelude.{◌≡◌, ◌-◌, ◌≤◌, drop}
use Rattle.flowlist.specs.List.{no_flows}
use Rattle.flowsheet.specs.Read.{flows_from}
use Rattle.flowsheet.proofs.read_lines.Given as goal

abbrev pub invariant-loop-p : goal.invariant-loop-p
invariant-loop-p l = (l.l.count ≤ 16) × (flows_from (16 - l.l.count) l.l (drop l.p l.s) ≡ flows_from 16 no_flows (drop l.at l.s))

abbrev pub decreases-loop-p : goal.decreases-loop-p
decreases-loop-p l = 16 - l.l.count
