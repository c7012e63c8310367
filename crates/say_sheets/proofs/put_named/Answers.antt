-- `say_sheets::put_named` meets its contract: the place, and then the change. Assumes nothing.
use native.Mathlib.Omega.{arith}
use borrow.Author.Tests.{eq-eqb, ne_eqb}
use Rattle.phrases.proofs.Put.{put_both, put-none, put-long}
use Rattle.say_sheets.proofs.put_named.Goals as goal

pub returns-then-c-eq0 : goal.returns-then-c-eq0
returns-then-c-eq0 c = rw (eq-eqb _ _ c.if-c-eq0.true) (put-none _ _ _)

pub put-requires : goal.put-requires
put-requires c = let p = c.put-next.ensures in omega (arith, put-long p, p.follows, p.short)

pub returns : goal.returns
returns c = rw (ne_eqb _ _ c.if-c-eq0.false, ← c.place_phrase.ensures) (put_both _ _ c.put-next.ensures c.put.ensures)
