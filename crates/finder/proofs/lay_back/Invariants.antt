-- `finder::lay_back` meets its contract: before cell i, the rows of the cells below i are written, each from the bit of its new number, and what is past them
-- is as it was. Assumes nothing.
use Prim.Native.Nat.{◌-◌, ◌≤◌}
use Rattle.renumbering.specs.Numbering.{index_at}
use Rattle.wordforms.specs.Words.{sends_at}
use Rattle.wordforms.proofs.Rows.{Scattered}
use Rattle.finder.proofs.lay_back.Given as goal

abbrev pub invariant-loop-i : goal.invariant-loop-i
invariant-loop-i l = (l.i ≤ l.cells) × Scattered l.n (λ j k. sends_at l.words (index_at l.new j) k) l.initial.table l.i l.table

abbrev pub decreases-loop-i : goal.decreases-loop-i
decreases-loop-i l = l.cells - l.i
