-- `wordforms::lay_eight` meets its contract: before row b, the rows below b have their bits, and the last row has the bytes; then it has its bits too.
-- Assumes nothing.
use Prim.Native.Nat.{◌+◌, ◌-◌, ◌≤◌}
use Rattle.wordforms.specs.Words.{sends_at}
use Rattle.wordforms.proofs.Rows.{Scattered}
use Rattle.wordforms.proofs.lay_eight.Given as goal

abbrev pub invariant-loop-b : goal.invariant-loop-b
invariant-loop-b l = (l.b ≤ l.last) × Scattered l.n (λ c. sends_at l.words (l.i + c)) l.initial.rows l.b l.rows

abbrev pub decreases-loop-b : goal.decreases-loop-b
decreases-loop-b l = l.last - l.b
