-- `numberrows::all_clash` meets its contract: a walk over the cells of `near`, of which those passed miss none. Assumes nothing.
use mathlib.Core.Path.{◌≡◌}
use mathlib.Core.Bool.{Bool, false, ◌&&◌}
use mathlib.Core.List.{List}
use Prim.Native.Nat.{ℕ, ◌≤◌, ◌<◌}
use lib.ListN.{get_or}
use Rattle.laws.specs.Bits.{bit_at, word_of}
use Rattle.laws.proofs.Upward.{from_on}
use Rattle.numberrows.specs.Words.{misses_in}
use Rattle.numberrows.proofs.all_clash.Given as goal

-- a cell of `near` that misses another
abbrev pub test : List ℕ → ℕ → ℕ → Bool
test rows near a = bit_at near a && misses_in near (get_or rows a 0) a

abbrev pub invariant-loop-rest : goal.invariant-loop-rest
invariant-loop-rest l = (k : ℕ) × (k ≤ 32) × (l.rest ≡ word_of (from_on (bit_at l.near) k) 32) × ((j : ℕ) → j < k → test l.rows l.near j ≡ false)

abbrev pub decreases-loop-rest : goal.decreases-loop-rest
decreases-loop-rest l = l.rest
