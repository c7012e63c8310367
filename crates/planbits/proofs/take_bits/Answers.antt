-- `planbits::take_bits` meets its contract. The invariant: the bits before i are there. Assumes nothing.
use Rattle.std.proofs.Common.{ℕ, ◌+◌, ◌*◌, arith}
use Rattle.planbits.specs.Bits.{ones}
use Rattle.planbits.proofs.Block.{more, one-run}
use Rattle.planbits.proofs.take_bits.Goals as goal

pub loop-i-preserved : goal.loop-i-preserved
loop-i-preserved c = let l = c.loop-i in
    let a = c.args in
    more (λ (q : ℕ). ones a.table.now (a.k + 1 * q) 1) l.bits l.i c.is_one.result (omega arith) l.invariant
    (one-run a.table.now a.k l.i c.is_one.result c.is_one.ensures)
