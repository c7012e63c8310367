-- `words::word_at` meets its contract: before cell i, the word of the cells below i. Assumes nothing.
use mathlib.Core.Path.{◌≡◌}
use Prim.Native.Nat.{◌-◌, ◌≤◌}
use Rattle.theory.specs.Greedy.{reserved}
use Rattle.words.specs.Words.{word_at}
use Rattle.words.proofs.word_at.Given as goal

abbrev pub invariant-loop-i : goal.invariant-loop-i
invariant-loop-i l = (l.i ≤ l.cells) × (l.word ≡ word_at l.i (reserved l.n l.table) l.p)

abbrev pub decreases-loop-i : goal.decreases-loop-i
decreases-loop-i l = l.cells - l.i
