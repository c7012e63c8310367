-- `say_diff::change_count` meets its contract: before cell i, the changes of the cells below it are counted. Assumes nothing.
use Rattle.std.specs.Prelude.{◌≡◌}
use Rattle.theory.specs.Greedy.{reserved}
use Rattle.mending.specs.Changes.{change_count}
use Rattle.say_diff.proofs.change_count.Given as goal

abbrev pub invariant-loop-i : goal.invariant-loop-i
invariant-loop-i l = l.all ≡ change_count (reserved l.n l.new) (reserved l.n l.old) l.n l.i
