-- `say_faults::piece_count` meets its contract: before cell i, those of the cells below it are counted. Assumes nothing.
use Rattle.std.specs.Prelude.{◌≡◌}
use Rattle.laws.specs.Sum.{count}
use Rattle.say_faults.specs.Said.{shown_in}
use Rattle.say_faults.proofs.piece_count.Given as goal

abbrev pub invariant-loop-i : goal.invariant-loop-i
invariant-loop-i l = l.all ≡ count (shown_in l.site l.table l.piece) l.i
