-- `inputs::ruled` meets its contract: the two tests decide the conjunction. Assumes nothing.
use mathlib.Core.Path.{sym}
use native.Mathlib.Omega.{arith}
use borrow.Author.Tests.{eq-eqb, ne_eqb}
use Rattle.inputs.proofs.ruled.Goals as goal

pub two_bytes-length-requires : goal.two_bytes-length-requires
two_bytes-length-requires c = omega arith

pub returns-then-length-ne10 : goal.returns-then-length-ne10
returns-then-length-ne10 c = rw (sym c.two_bytes-length.ensures, ne_eqb _ _ c.if-length-ne10.true)

pub two_bytes-kind-requires : goal.two_bytes-kind-requires
two_bytes-kind-requires c = omega arith

pub returns : goal.returns
returns c = rw (sym c.two_bytes-length.ensures, eq-eqb _ _ c.if-length-ne10.false, sym c.two_bytes-kind.ensures)
