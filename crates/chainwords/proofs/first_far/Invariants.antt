-- `chainwords::first_far` meets its contract: the search stands at a cell of the word, and what is left gives the answer. Assumes nothing.
use Prim.Native.Nat.{ℕ, ◌-◌}
use mathlib.Core.Bool.{Bool}
use mathlib.Core.List.{List}
use lib.Dec.{ltb}
use lib.ListN.{get_or}
use Rattle.laws.specs.Bits.{bit_at}
use Rattle.chainwords.specs.Chain.{gap_in, far_in}
use Rattle.chainwords.proofs.Laws.{At}
use Rattle.chainwords.proofs.first_far.Given as goal

-- whether some later cell of the word, below i, does not clash with a
abbrev pub open_at : List ℕ → ℕ → ℕ → ℕ → Bool
open_at rows near i a = ltb (gap_in (get_or rows a 0) near a i) i

abbrev pub invariant-loop-a : goal.invariant-loop-a
invariant-loop-a l = At (bit_at l.near) (open_at l.clash l.near l.i) (far_in l.clash l.near l.i) l.a l.i

abbrev pub decreases-loop-a : goal.decreases-loop-a
decreases-loop-a l = l.i - l.a
