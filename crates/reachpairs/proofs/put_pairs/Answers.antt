-- `reachpairs::put_pairs` meets its contract. The invariant: the bytes of the rows that are left end at `end`, and to store them from k on makes the answer.
-- Where no bytes are left, it is made. Assumes nothing.
use Rattle.std.proofs.Common.{refl, sym, ap, ◌∙◌, arith}
use lib.Seq.{sets}
use Rattle.reachpairs.specs.Pairs.{pair_bytes}
use Rattle.reachpairs.proofs.RowLaws.{rows-put, rows-unroll-length, rows_end}
use Rattle.reachpairs.proofs.LowestBit.{rows-done}
use Rattle.reachpairs.proofs.put_pairs.Goals as goal

pub loop-a-init : goal.loop-a-init
unfolding pair_bytes
loop-a-init c = (sym c.requires.0, refl)

pub returns-then-k-end : goal.returns-then-k-end
unfolding pair_bytes
returns-then-k-end c = let l = c.loop-a in
    sym (ap (sets l.out l.k) (rows-done c.args.reach.now l.a l.k c.args.end l.invariant.0 (omega arith))) ∙ l.invariant.1

pub put_row-k-requires : goal.put_row-k-requires
put_row-k-requires c = let l = c.loop-a in
    (c.loop-a-test.true, omega (arith, l.invariant.0, rows-unroll-length c.args.reach.now l.a c.loop-a-test.true))

pub loop-a-preserved : goal.loop-a-preserved
loop-a-preserved c = let l = c.loop-a in
    let rows = c.args.reach.now in
    let put = c.put_row-k.ensures in (
      omega (arith, put.value, l.invariant.0, rows-unroll-length rows l.a c.loop-a-test.true),
      rw (put.out_after, put.value) (rows-put l.out l.k rows l.a c.loop-a-test.true ∙ l.invariant.1),
    )

pub returns : goal.returns
unfolding pair_bytes
returns c = let l = c.loop-a in
    sym (ap (sets l.out l.k) (rows_end c.args.reach.now l.a c.loop-a-test.false)) ∙ l.invariant.1
