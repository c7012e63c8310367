-- `wordforms::lay_eights` meets its contract: before cell i, the rows of the cells below i are written, and what is past them is as it was. Assumes nothing.
use Prim.Native.Nat.{◌≤◌}
use Rattle.wordforms.specs.Words.{sends_at}
use Rattle.wordforms.proofs.Rows.{Scattered}
use Rattle.wordforms.proofs.lay_eights.Given as goal

abbrev pub invariant-loop-i : goal.invariant-loop-i
invariant-loop-i l = (l.i ≤ l.cells) × Scattered l.n (sends_at l.words) l.initial.table l.i l.table
