-- `stretches::stretch_of` meets its contract: before each turn the cells below some i had theirs, and the rest has all that are open (proofs/Turns.antt).
-- The rest gets smaller with each. Assumes nothing.
use mathlib.Core.Bool.{Bool}
use Prim.Native.Nat.{ℕ, ◌≤◌}
use Rattle.stretches.proofs.Turns.{Turned, Left}
use Rattle.stretches.proofs.stretch_of.Given as goal

abbrev pub invariant-loop-rest : goal.invariant-loop-rest
invariant-loop-rest l = (i : ℕ) × (q : ℕ → Bool) × (i ≤ l.cells) × Turned l.clash l.left l.need l.most i l.word l.run
    × Left l.clash l.left l.need l.most l.cells i l.met l.rest q

abbrev pub decreases-loop-rest : goal.decreases-loop-rest
decreases-loop-rest l = l.rest
