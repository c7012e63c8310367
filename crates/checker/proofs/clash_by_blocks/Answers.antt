-- `checker::clash_by_blocks` meets its contract: before each turn no position below `from` has a clash. Assumes nothing.
use Rattle.std.proofs.Common.{zero-le, sym, arith}
use Rattle.laws.proofs.Search.{first-none}
use Rattle.theory.specs.Verdict.{lowest_clash}
use Rattle.checker.proofs.Lowest.{block-found, block-missed}
use Rattle.checker.proofs.clash_by_blocks.Invariants.{test}
use Rattle.checker.proofs.clash_by_blocks.Goals as goal

pub returns-then-p-lt128 : goal.returns-then-p-lt128
unfolding lowest_clash
returns-then-p-lt128 c = let l = c.loop-from in
    let a = c.args in
    block-found (test a.table.now a.n a.clash.now a.cells) c.min-at.result 128 a.n (omega arith) (λ j h. l.invariant.1 j (omega arith))
    c.clash_block-p.ensures (omega (arith, c.if-p-lt128.true))

pub loop-from-preserved : goal.loop-from-preserved
loop-from-preserved c = let l = c.loop-from in
    let a = c.args in (
      omega arith,
      λ j h.
          block-missed (test a.table.now a.n a.clash.now a.cells) c.min-at.result 128 a.n (omega arith)
          (λ j h. l.invariant.1 j (omega arith)) c.clash_block-p.ensures (omega (arith, c.if-p-lt128.false)) j (omega arith),
    )

pub returns-else-p-lt128 : goal.returns-else-p-lt128
unfolding lowest_clash
returns-else-p-lt128 c = let l = c.loop-from in
    let a = c.args in
    sym (first-none (test a.table.now a.n a.clash.now a.cells) 0 a.n zero-le (λ j _ h.
    block-missed (test a.table.now a.n a.clash.now a.cells) c.min-at.result 128 a.n (omega arith)
    (λ j h. l.invariant.1 j (omega arith)) c.clash_block-p.ensures (omega (arith, c.if-p-lt128.false)) j (omega arith)))

pub returns : goal.returns
unfolding lowest_clash
returns c = let l = c.loop-from in
    let a = c.args in
    sym (first-none (test a.table.now a.n a.clash.now a.cells) 0 a.n zero-le (λ j _ h. l.invariant.1 j (omega arith)))
