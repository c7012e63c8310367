-- `phrases::row_end` meets its contract. The invariant: what was passed has no bar. Assumes nothing.
use Rattle.std.specs.Prelude.{◌≡◌, ◌++◌, take, drop}
use Rattle.phrases.specs.Phrases.{up_to_bar}
use Rattle.phrases.proofs.row_end.Given as goal

abbrev pub invariant-loop-i : goal.invariant-loop-i
invariant-loop-i l = up_to_bar l.table ≡ take l.i l.table ++ up_to_bar (drop l.i l.table)
