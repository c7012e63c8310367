-- `say_sheets::put_tidied` meets its contract: nothing to change, or the changes. Assumes nothing.
use native.Mathlib.Omega.{arith}
use borrow.Author.Tests.{eq-eqb, ne_eqb}
use Rattle.phrases.proofs.Put.{put_both, put-wide}
use Rattle.say_sheets.proofs.put_tidied.Goals as goal

pub returns-then-first_change-eq-KINDS : goal.returns-then-first_change-eq-KINDS
returns-then-first_change-eq-KINDS c = rw (← c.first_change.ensures, eq-eqb _ _ c.if-first_change-eq-KINDS.true) (put-wide 9000 (omega arith) c.put.ensures)

pub returns : goal.returns
returns c = rw (← c.first_change.ensures, ne_eqb _ _ c.if-first_change-eq-KINDS.false)
    (put-wide 9000 (omega arith) (put_both _ _ c.put-next.ensures c.put_changes.ensures))
