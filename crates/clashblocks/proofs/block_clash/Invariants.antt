-- `clashblocks::block_clash` meets its contract: before each turn the cells from i on are joined, and the positions that they met are known. Assumes nothing.
use Rattle.std.specs.Prelude.{◌≡◌, ◌^◌, ◌<◌, length}
use Rattle.clashblocks.proofs.Joined.{Joined}
use Rattle.clashblocks.proofs.block_clash.Given as goal

abbrev pub invariant-loop-i : goal.invariant-loop-i
invariant-loop-i l = (length l.lows ≡ 32)
    × (length l.highs ≡ 32)
    × Joined l.cells l.n l.clash l.table l.from l.i l.lows l.highs l.low l.high l.met_low l.met_high
    × (l.met_low < 2 ^ 64)
    × (l.met_high < 2 ^ 64)
