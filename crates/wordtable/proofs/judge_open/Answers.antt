-- `wordtable::judge_open` meets its contract: what the walk finds is what the verdict names. Assumes nothing.
use Prim.Native.Nat.{◌<◌}
use native.Mathlib.Omega.{arith}
use lib.ListN.{get_or}
use Rattle.checker.proofs.Judged.{second-most}
use Rattle.wordtable.proofs.Runs.{none-counted}
use Rattle.wordtable.proofs.Judged.{first-inside, is-valid}
use Rattle.wordtable.proofs.judge_open.Goals as goal

pub walk-p-requires-clause-counted_to : goal.walk-p-requires-clause-counted_to
walk-p-requires-clause-counted_to c = none-counted c.args.cells c.args.words.now c.requires.0

pub second_in-c-requires : goal.second_in-c-requires
second_in-c-requires c =
    let inside : c.first_in-a.result < c.args.cells = first-inside c.args.cells c.args.n c.args.loads c.args.clash.now c.args.words.now c.walk-p.ensures.lowest
    c.if-p-n.true c.first_in-a.ensures in
    (c.requires.0, inside)

pub overflow_add-result : goal.overflow_add-result
overflow_add-result c =
    let inside : c.first_in-a.result < c.args.cells = first-inside c.args.cells c.args.n c.args.loads c.args.clash.now c.args.words.now c.walk-p.ensures.lowest
    c.if-p-n.true c.first_in-a.ensures in
    omega (arith, inside, c.requires.0)

pub overflow_add-result-then-p-n : goal.overflow_add-result-then-p-n
overflow_add-result-then-p-n c =
    let inside : c.first_in-a.result < c.args.cells = first-inside c.args.cells c.args.n c.args.loads c.args.clash.now c.args.words.now c.walk-p.ensures.lowest
    c.if-p-n.true c.first_in-a.ensures in
    omega (
      arith,
      c.second_in-c.ensures,
      second-most c.args.cells c.args.clash.now (get_or c.args.words.now c.walk-p.result 0) c.first_in-a.result inside,
      c.requires.0,
    )

pub returns : goal.returns
returns c = let none = c.if-p-n.false in
    is-valid c.args.cells c.args.n c.args.loads c.args.clash.now c.args.words.now c.walk-p.ensures.lowest none c.walk-p.new.counts
    (c.walk-p.ensures.counted none) c.lowest_wrong-i.ensures c.if-i-cells.false
