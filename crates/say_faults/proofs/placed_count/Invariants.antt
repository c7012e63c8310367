-- `say_faults::placed_count` meets its contract: before position k, the faults of the positions below it are counted. Assumes nothing.
use Rattle.std.specs.Prelude.{◌≡◌}
use Rattle.laws.specs.Sum.{sum}
use Rattle.say_faults.specs.Said.{placed_at}
use Rattle.say_faults.proofs.placed_count.Given as goal

abbrev pub invariant-loop-k : goal.invariant-loop-k
invariant-loop-k l = l.all ≡ sum (placed_at l.site l.table) l.k
