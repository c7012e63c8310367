-- `rowcounts::count_row` meets its contract: before stretch k, the bytes of those before it are counted. Assumes nothing.
use Rattle.std.specs.Prelude.{◌≡◌, ◌*◌}
use Rattle.theory.specs.Greedy.{held}
use Rattle.rowcounts.proofs.count_row.Given as goal

abbrev pub invariant-loop-k : goal.invariant-loop-k
invariant-loop-k l = l.count ≡ held (128 * l.k) l.row
