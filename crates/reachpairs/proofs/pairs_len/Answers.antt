-- `reachpairs::pairs_len` meets its contract. The invariant: with the bytes of the rows that are left it is the answer. Assumes nothing.
use Rattle.std.proofs.Common.{◌*◌, ap, arith, length}
use lib.ListN.{get_or}
use Rattle.reachpairs.specs.Pairs.{pair_bytes}
use Rattle.reachpairs.proofs.RowLaws.{rows-unroll-length, rows_end, row-most}
use Rattle.reachpairs.proofs.pairs_len.Goals as goal

pub overflow_add-n : goal.overflow_add-n
overflow_add-n c = let l = c.loop-a in
    omega (arith, c.row_len-n.ensures, row-most (get_or c.args.reach l.a 0) (32 * l.a) 32)

pub loop-a-preserved : goal.loop-a-preserved
loop-a-preserved c = let l = c.loop-a in (
  omega (arith, c.row_len-n.ensures, row-most (get_or c.args.reach l.a 0) (32 * l.a) 32),
  omega (arith, c.row_len-n.ensures, rows-unroll-length c.args.reach l.a c.loop-a-test.true),
)

pub returns : goal.returns
unfolding pair_bytes
returns c = let l = c.loop-a in
    omega (arith, ap length (rows_end c.args.reach l.a c.loop-a-test.false))
