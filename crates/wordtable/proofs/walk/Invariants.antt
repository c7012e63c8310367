-- `wordtable::walk` meets its contract: a search over the runs of equal words: what is left gives the answer, and what is passed is counted. Assumes nothing.
use mathlib.Core.Path.{◌≡◌}
use Prim.Native.Nat.{◌-◌, ◌≤◌}
use lib.ListN.{get_or}
use Rattle.laws.specs.Search.{first}
use Rattle.wordtable.specs.Tally.{clashing_word, CountedTo}
use Rattle.wordtable.proofs.walk.Given as goal

abbrev pub invariant-loop-p : goal.invariant-loop-p
invariant-loop-p l = (l.p ≤ l.n)
    × (first (λ k. clashing_word l.clash l.cells (get_or l.words k 0)) 0 l.n ≡ first (λ k. clashing_word l.clash l.cells (get_or l.words k 0)) l.p l.n)
    × CountedTo l.cells l.words l.p l.counts

abbrev pub decreases-loop-p : goal.decreases-loop-p
decreases-loop-p l = l.n - l.p
