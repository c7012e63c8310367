-- `clashblocks::united` meets its contract: a walk over the cells of a word; before each turn the blocks of those below some j are joined. Assumes nothing.
use mathlib.Core.Path.{◌≡◌}
use mathlib.Core.Bool.{◌&&◌}
use Prim.Native.Nat.{ℕ, ◌≤◌}
use Rattle.laws.specs.Bits.{bit_at, word_of}
use Rattle.laws.specs.Sum.{any}
use Rattle.laws.proofs.Upward.{from_on}
use Rattle.blocks.specs.Order.{placed}
use Rattle.clashblocks.specs.Above.{cell_placed}
use Rattle.clashblocks.proofs.united.Given as goal

abbrev pub invariant-loop-rest : goal.invariant-loop-rest
invariant-loop-rest l = (j : ℕ)
    × (j ≤ 32)
    × (l.rest ≡ word_of (from_on (bit_at l.word) j) 32)
    × ((k : ℕ) → placed l.low l.high k ≡ any (λ c. bit_at l.word c && cell_placed l.lows l.highs k c) j)

abbrev pub decreases-loop-rest : goal.decreases-loop-rest
decreases-loop-rest l = l.rest
