-- `search::gathered` meets its contract: at each head of the loop the word has the bits of the first k fragments. Assumes nothing.
use mathlib.Core.Path.{◌≡◌}
use Prim.Native.Nat.{ℕ, ◌-◌, ◌≤◌}
use Rattle.laws.specs.Bits.{bit_at, bit_in}
use Rattle.search.specs.Hunt.{keeps}
use Rattle.search.proofs.gathered.Given as goal

abbrev pub invariant-loop-k : goal.invariant-loop-k
invariant-loop-k l = (l.k ≤ l.d) × ((i : ℕ) → bit_at l.word i ≡ keeps (bit_in l.clash) l.owner l.at l.k l.c i)

abbrev pub decreases-loop-k : goal.decreases-loop-k
decreases-loop-k l = l.d - l.k
