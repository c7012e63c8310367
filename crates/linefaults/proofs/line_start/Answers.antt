-- `linefaults::line_start` meets its contract: what is left to pass, from here on, gives the whole. Assumes nothing.
use Rattle.std.proofs.Common.{◌+◌, ◌<◌, ◌≡◌, sym, ap, ◌∙◌, length, drop, arith}
use borrow.Author.Tests.{eq-eqb, ne_eqb}
use Rattle.linefaults.specs.Fault.{after_lines}
use Rattle.linefaults.proofs.Lines.{passed, pass-end, pass-line, pass-other}
use Rattle.linefaults.proofs.line_start.Goals as goal
use Rattle.linefaults.proofs.line_start.Goals.{then-byte-eq-LF, else-byte-eq-LF}

pub returns-then-left-eq0-clause-start : goal.returns-then-left-eq0-clause-start
returns-then-left-eq0-clause-start c = let l = c.loop-i in
    sym (passed c.args.s.now l.i l.left c.if-left-eq0.true) ∙ l.invariant

pub loop-i-preserved : goal.loop-i-preserved
loop-i-preserved c = let l = c.loop-i in
    let s = c.args.s.now in
    let some : 0 < l.left = omega arith in
    elim c.if-byte-eq-LF.branch [
      | then-byte-eq-LF w ↦
          ap (λ n. after_lines n (drop (l.i + 1) s)) w.left-is
          ∙ sym (pass-line s l.i (omega arith) l.left some (eq-eqb _ _ w.if-byte-eq-LF.true)) ∙ l.invariant
      | else-byte-eq-LF w ↦
          ap (λ n. after_lines n (drop (l.i + 1) s)) w.left-is
          ∙ sym (pass-other s l.i (omega arith) l.left some (ne_eqb _ _ w.if-byte-eq-LF.false)) ∙ l.invariant
    ]

pub returns-clause-start : goal.returns-clause-start
returns-clause-start c = let l = c.loop-i in
    let s = c.args.s.now in
    let e : length s ≡ l.i = omega arith in
    rw e (sym (pass-end s l.i l.left (omega arith)) ∙ l.invariant)
