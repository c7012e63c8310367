-- `phrases::row_start` meets its contract. The invariant: what is left to pass, from here on, gives the whole. Assumes nothing.
use Rattle.std.specs.Prelude.{◌≡◌, drop}
use Rattle.phrases.specs.Phrases.{skip}
use Rattle.phrases.proofs.row_start.Given as goal

abbrev pub invariant-loop-i : goal.invariant-loop-i
invariant-loop-i l = skip l.left (drop l.i l.table) ≡ skip l.row l.table
