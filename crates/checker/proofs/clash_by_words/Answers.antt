-- `checker::clash_by_words` meets its contract: a search: what is left gives the answer. Assumes nothing.
use Rattle.std.proofs.Common.{◌≡◌, ◌+◌, refl, arith}
use Rattle.laws.proofs.Search.{ended}
use Rattle.theory.specs.Verdict.{lowest_clash}
use Rattle.checker.proofs.Lowest.{part-found, part-missed}
use Rattle.checker.proofs.clash_by_words.Invariants.{test}
use Rattle.checker.proofs.clash_by_words.Goals as goal

pub loop-from-init : goal.loop-from-init
unfolding lowest_clash
loop-from-init c = (omega arith, refl)

pub returns-then-p-m : goal.returns-then-p-m
returns-then-p-m c = let a = c.args in
    part-found (test a.table.now a.n a.clash.now a.cells) c.loop-from.from c.min-m.result a.n (omega arith)
    c.loop-from.invariant.1
    c.clash_in-p.ensures c.if-p-m.true

pub loop-from-preserved : goal.loop-from-preserved
loop-from-preserved c = let a = c.args in
    let whole : c.min-m.result ≡ 64 = omega arith in (
      omega arith,
      rw whole at
          (part-missed (test a.table.now a.n a.clash.now a.cells) c.loop-from.from c.min-m.result a.n (omega arith)
          c.loop-from.invariant.1
          c.clash_in-p.ensures c.if-p-m.false),
    )

pub returns-else-p-m : goal.returns-else-p-m
returns-else-p-m c = let a = c.args in
    let all : c.loop-from.from + c.min-m.result ≡ a.n = omega arith in
    rw all at
    (ended (test a.table.now a.n a.clash.now a.cells) (c.loop-from.from + c.min-m.result) a.n
    (part-missed (test a.table.now a.n a.clash.now a.cells) c.loop-from.from c.min-m.result a.n (omega arith)
    c.loop-from.invariant.1
    c.clash_in-p.ensures c.if-p-m.false) (omega arith))

pub returns : goal.returns
returns c = let a = c.args in
    let all : c.loop-from.from ≡ a.n = omega arith in
    rw all at (ended (test a.table.now a.n a.clash.now a.cells) c.loop-from.from a.n c.loop-from.invariant.1 (omega arith))
