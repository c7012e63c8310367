-- `wordtable::tally` meets its contract: before each turn the cells of the word below some k are looked at, and the rest are left (proofs/Counts.antt).
-- What is left gets smaller with each. Assumes nothing.
use Prim.Native.Nat.{ℕ}
use Rattle.wordtable.proofs.Counts.{Tallied}
use Rattle.wordtable.proofs.tally.Given as goal

abbrev pub invariant-loop-left : goal.invariant-loop-left
invariant-loop-left l = (k : ℕ) × Tallied l.cells l.word l.times l.clash l.initial.counts k l.counts l.met l.left

abbrev pub decreases-loop-left : goal.decreases-loop-left
decreases-loop-left l = l.left
