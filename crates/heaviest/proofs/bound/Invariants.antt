-- `heaviest::bound` meets its contract: before each turn the classes so far are counted, and a turn adds at most one load. Assumes nothing.
use Rattle.std.specs.Prelude.{◌*◌, ◌≤◌}
use Rattle.heaviest.specs.Code.{Counts}
use Rattle.heaviest.proofs.bound.Given as goal

abbrev pub invariant-loop : goal.invariant-loop
invariant-loop l = (Counts l.clash l.loads l.word l.left l.left 0 l.total) × (l.total ≤ 65535 * l.counter)
