-- `heaviest::class_of` meets its contract: whatever was counted before the class, is counted with the cells that have joined it. What is apart gets less in
-- each turn. Assumes nothing.
use Prim.Native.Nat.{ℕ, ◌≤◌}
use Rattle.heaviest.specs.Code.{Keeps}
use Rattle.heaviest.proofs.class_of.Given as goal

abbrev pub invariant-loop-apart : goal.invariant-loop-apart
invariant-loop-apart l = ((total : ℕ) → Keeps l.clash l.loads l.word l.word 0 total l.left l.apart l.heavy total) × (l.heavy ≤ 65535)

abbrev pub decreases-loop-apart : goal.decreases-loop-apart
decreases-loop-apart l = l.apart
