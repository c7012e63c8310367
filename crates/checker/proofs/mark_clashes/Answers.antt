-- `checker::mark_clashes` meets its contract: before cell a, the cells from a on are joined and marked. Assumes nothing.
use Rattle.std.proofs.Common.{◌≡◌, ◌+◌, ◌-◌, ◌<◌, ◌≤◌, length, sym, ◌∙◌, arith}
use Rattle.laws.proofs.Stores.{sets_same}
use Rattle.theory.specs.Greedy.{reserved}
use Rattle.words.specs.Words.{word_from}
use Rattle.words.proofs.Words.{from-none}
use Rattle.checker.proofs.Marks.{marks-none, words_more, marks-more, marks-all}
use Rattle.checker.proofs.mark_clashes.Goals as goal

pub loop-a-init : goal.loop-a-init
loop-a-init c = let a = c.args in
    let z = c.requires.zeros in (
      sets_same (λ k. word_from a.cells a.cells (reserved a.n a.table.now) (a.from + k)) a.m a.words.now (omega arith)
          (λ k l. z.0 k l ∙ sym (from-none (λ i. reserved a.n a.table.now i (a.from + k)) a.cells)),
      marks-none a.cells a.n a.clash.now a.table.now a.from a.m a.marks.now z.1,
    )

pub loop-a-preserved : goal.loop-a-preserved
loop-a-preserved c = let a = c.args in
    let l = c.loop-a in
    let e : l.a ≡ l.a - 1 + 1 = omega arith in
    let words = rw e at l.invariant.0 in
    let below : l.a - 1 < a.cells = omega arith in
    let long : a.m ≤ length a.words.now = omega arith in (
      words_more a.cells a.n a.clash.now a.table.now a.from a.m (l.a - 1) below a.words.now l.words long words
          c.join_row.new.words (omega arith) c.join_row.ensures.joined,
      marks-more a.cells a.n a.clash.now a.table.now a.from a.m (l.a - 1) below a.words.now l.words long words
          l.marks c.join_row.new.marks (omega arith) (rw e at l.invariant.1) c.join_row.ensures.marked,
    )

pub returns : goal.returns
returns c = let a = c.args in
    let l = c.loop-a in
    let e : l.a ≡ 0 = omega arith in
    marks-all a.cells a.n a.clash.now a.table.now a.from a.m l.marks (rw e at l.invariant.1)
