-- `tidying::judge` meets its contract: a bad line is refused, and a good sheet laid. Assumes nothing.
use mathlib.Core.Path.{refl}
use borrow.Author.Tests.{eq-eqb, ne_eqb}
use Rattle.tidying.specs.Tidy.{judged_answer, judged_out}
use Rattle.tidying.proofs.judge.Goals as goal

pub returns-then-bad-ne0 : goal.returns-then-bad-ne0
unfolding judged_answer judged_out
returns-then-bad-ne0 c = record {
  answer = rw (← c.bad_line-bad.ensures, ne_eqb _ _ c.if-bad-ne0.true) refl;
  out = rw
      (← c.bad_line-bad.ensures, ne_eqb _ _ c.if-bad-ne0.true) refl;
}

pub returns : goal.returns
unfolding judged_answer judged_out
returns c = record {
  answer = rw (← c.bad_line-bad.ensures, eq-eqb _ _ c.if-bad-ne0.false) c.lay.ensures.answer;
  out = rw (← c.bad_line-bad.ensures, eq-eqb _ _ c.if-bad-ne0.false) c.lay.ensures.out;
}
