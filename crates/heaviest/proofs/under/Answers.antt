-- `heaviest::under` meets its contract. Assumes nothing.
use native.Mathlib.Omega.{arith}
use Rattle.heaviest.proofs.under.Goals as goal

pub returns-then-x-eq0 : goal.returns-then-x-eq0
returns-then-x-eq0 c = omega arith

pub overflow_sub-result : goal.overflow_sub-result
overflow_sub-result c = omega arith

pub returns : goal.returns
returns c = omega arith
