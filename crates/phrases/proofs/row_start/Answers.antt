-- `phrases::row_start` meets its contract. The invariant: what is left to pass, from here on, gives the whole. Assumes nothing.
use Rattle.std.proofs.Common.{◌≡◌, ◌+◌, ◌<◌, sym, ap, ◌∙◌, arith, length, drop}
use borrow.Author.Tests.{eq-eqb, ne_eqb}
use Rattle.phrases.specs.Phrases.{skip}
use Rattle.phrases.proofs.Rows.{skipped, skip-end, skip-bar, skip-other}
use Rattle.phrases.proofs.row_start.Goals as goal
use Rattle.phrases.proofs.row_start.Goals.{then-byte-eq124, else-byte-eq124}

pub returns-then-left-eq0-clause-start : goal.returns-then-left-eq0-clause-start
returns-then-left-eq0-clause-start c = let l = c.loop-i in
    sym (skipped c.args.table.now l.i l.left c.if-left-eq0.true) ∙ l.invariant

pub loop-i-preserved : goal.loop-i-preserved
loop-i-preserved c = let l = c.loop-i in
    let table = c.args.table.now in
    let some : 0 < l.left = omega arith in
    elim c.if-byte-eq124.branch [
      | then-byte-eq124 w ↦
          let bar = skip-bar table l.i c.loop-i-test.true l.left some (eq-eqb _ _ w.if-byte-eq124.true) in
          ap (λ n. skip n (drop (l.i + 1) table)) w.left-is ∙ sym bar ∙ l.invariant
      | else-byte-eq124 w ↦
          let other = skip-other table l.i c.loop-i-test.true l.left some (ne_eqb _ _ w.if-byte-eq124.false) in
          ap (λ n. skip n (drop (l.i + 1) table)) w.left-is ∙ sym other ∙ l.invariant
    ]

pub returns-clause-start : goal.returns-clause-start
returns-clause-start c = let l = c.loop-i in
    let table = c.args.table.now in
    let e : l.i ≡ length table = omega arith in
    rw (sym e) (sym (skip-end table l.i l.left c.loop-i-test.false) ∙ l.invariant)
