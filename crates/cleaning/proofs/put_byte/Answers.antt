-- `cleaning::put_byte` meets its contract: a byte more, or none. Assumes nothing.
use native.Mathlib.Omega.{arith}
use Rattle.cleaning.proofs.Kept.{kept-none, kept_full, kept-one}
use borrow.Author.Tests.{eq-eqb, ne_eqb}
use Rattle.cleaning.specs.Clean.{byte_out}
use Rattle.cleaning.proofs.put_byte.Goals as goal

pub returns-then-b-eq0 : goal.returns-then-b-eq0
unfolding byte_out
returns-then-b-eq0 c = rw (eq-eqb _ _ c.if-b-eq0.true) (kept-none _ _ (omega arith))

pub returns-then-out-at : goal.returns-then-out-at
unfolding byte_out
returns-then-out-at c = kept_full _ _ _ (omega arith) (omega arith)

pub returns : goal.returns
unfolding byte_out
returns c = rw (ne_eqb _ _ c.if-b-eq0.false) (kept-one _ _ _ (omega arith))
