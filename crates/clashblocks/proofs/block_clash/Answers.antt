-- `clashblocks::block_clash` meets its contract: before each turn the cells from i on are joined, and the positions that they met are known. Assumes nothing.
use Rattle.std.proofs.Common.{arith, ℕ, ◌≡◌, ◌+◌, ◌-◌, ◌∙◌}
use lib.Bits.{or_lt}
use lib.ListN.{length-set, length-replicate}
use Rattle.blocks.proofs.Places.{placed-words}
use Rattle.clashblocks.specs.Above.{clash_from}
use Rattle.clashblocks.proofs.Joined.{none-joined, more-joined, all-joined}
use Rattle.clashblocks.proofs.block_clash.Goals as goal

pub loop-i-init : goal.loop-i-init
loop-i-init c = let a = c.args in (
  length-replicate {A = ℕ} 32 0,
  length-replicate {A = ℕ} 32 0,
  none-joined a.cells a.n a.clash.now a.table.now a.from,
  omega arith,
  omega arith,
)

pub loop-i-preserved : goal.loop-i-preserved
loop-i-preserved c =
    let l = c.loop-i in
    let a = c.args in
    let e : l.i ≡ l.i - 1 + 1 = omega arith in (
      length-set l.lows (l.i - 1) _ ∙ l.invariant.0,
      length-set l.highs (l.i - 1) _ ∙ l.invariant.1,
      more-joined a.cells a.n a.clash.now a.table.now a.from (l.i - 1) l.lows l.highs l.low l.high l.met_low l.met_high
          (rw e at l.invariant.2) (omega arith) (omega arith) c.block_of-b.result.low c.block_of-b.result.high c.met_above-met.result.low
          c.met_above-met.result.high c.block_of-b.ensures.low c.block_of-b.ensures.high c.met_above-met.ensures (omega arith) (omega arith),
      or_lt 64 l.met_low c.met_above-met.result.low l.invariant.3 (omega arith),
      or_lt 64 l.met_high c.met_above-met.result.high l.invariant.4 (omega arith),
    )

pub returns : goal.returns
returns c = let l = c.loop-i in
    let a = c.args in
    let e : l.i ≡ 0 = omega arith in let all_told = placed-words
    (clash_from a.cells a.n a.clash.now a.table.now a.from) l.met_low l.met_high l.invariant.3 l.invariant.4
    (all-joined a.cells a.n a.clash.now a.table.now a.from l.lows l.highs l.low l.high l.met_low l.met_high
    (rw e at l.invariant.2)) in record { low = all_told.0; high = all_told.1 }
