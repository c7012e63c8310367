-- `sitehead::head_len` meets its contract: a case for each way out. Assumes nothing.
use native.Mathlib.Omega.{arith}
use borrow.Author.Tests.{eq-eqb, ne_eqb}
use Rattle.sitehead.proofs.head_len.Goals as goal

pub returns-then-rule-ne2 : goal.returns-then-rule-ne2
returns-then-rule-ne2 c = record { value = rw (ne_eqb _ _ c.if-rule-ne2.true); upper_bound = omega arith }

pub returns : goal.returns
returns c = record { value = rw (eq-eqb _ _ c.if-rule-ne2.false); upper_bound = omega arith }
