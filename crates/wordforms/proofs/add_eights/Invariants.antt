-- `wordforms::add_eights` meets its contract: before the eight at i, the words have the rows of the cells below i. Assumes nothing.
use Prim.Native.Nat.{◌≤◌}
use Rattle.wordforms.proofs.Rows.{Gathered}
use Rattle.wordforms.proofs.add_eights.Given as goal

abbrev pub invariant-loop-i : goal.invariant-loop-i
invariant-loop-i l = (l.i ≤ l.cells) × Gathered l.n l.table l.initial.words l.i l.words
