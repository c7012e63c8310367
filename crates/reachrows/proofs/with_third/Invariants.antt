-- `reachrows::with_third` meets its contract: before cell b, the word of the cells below b that reach a third cell with a. Assumes nothing.
use mathlib.Core.Path.{◌≡◌}
use Prim.Native.Nat.{◌-◌, ◌≤◌}
use Rattle.laws.specs.Bits.{word_of}
use Rattle.reachrows.specs.Rows.{reached_by_both}
use Rattle.reachrows.proofs.with_third.Given as goal

abbrev pub invariant-loop-b : goal.invariant-loop-b
invariant-loop-b l = (l.b ≤ l.n) × (l.word ≡ word_of (reached_by_both l.rows l.a) l.b)

abbrev pub decreases-loop-b : goal.decreases-loop-b
decreases-loop-b l = l.n - l.b
