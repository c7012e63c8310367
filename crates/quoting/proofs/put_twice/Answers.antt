-- `quoting::put_twice` meets its contract: a case for each way out. Assumes nothing.
use native.Mathlib.Omega.{arith}
use borrow.Author.Tests.{eq-eqb, ne_eqb}
use Rattle.phrases.proofs.Put.{put_both, put-wide}
use Rattle.quoting.specs.Names.{twice}
use Rattle.quoting.proofs.put_twice.Goals as goal

pub returns-then-byte-eq-QUOTE : goal.returns-then-byte-eq-QUOTE
unfolding twice
returns-then-byte-eq-QUOTE c = rw (eq-eqb _ 34 c.if-byte-eq-QUOTE.true) (put_both _ _ c.put_byte-next.ensures c.put_byte.ensures)

pub returns : goal.returns
unfolding twice
returns c = rw (ne_eqb _ 34 c.if-byte-eq-QUOTE.false) (put-wide 2 (omega arith) c.put_byte-2.ensures)
