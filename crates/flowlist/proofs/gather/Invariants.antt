-- `flowlist::gather` meets its contract: before each turn the array holds the flows gathered so far, and each turn stores one flow more at its place.
-- Assumes nothing.
use Rattle.std.proofs.Common.{◌≡◌}
use Rattle.flowlist.specs.List.{gathered}
use Rattle.flowlist.proofs.gather.Given as goal

abbrev pub invariant-loop-i : goal.invariant-loop-i
invariant-loop-i l = l.list ≡ (gathered l.flows l.i).list
