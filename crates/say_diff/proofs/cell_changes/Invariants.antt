-- `say_diff::cell_changes` meets its contract: before position k, the changes below it are counted. Assumes nothing.
use Rattle.std.specs.Prelude.{◌≡◌}
use Rattle.laws.specs.Sum.{count}
use Rattle.theory.specs.Greedy.{reserved}
use Rattle.mending.specs.Changes.{changed}
use Rattle.say_diff.proofs.cell_changes.Given as goal

abbrev pub invariant-loop-k : goal.invariant-loop-k
invariant-loop-k l = l.all ≡ count (changed (reserved l.n l.new) (reserved l.n l.old) l.i) l.k
