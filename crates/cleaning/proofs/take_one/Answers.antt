-- `cleaning::take_one` meets its contract: a byte more. Assumes nothing.
use native.Mathlib.Omega.{arith}
use Rattle.cleaning.proofs.Fields.{byte-taken}
use Rattle.cleaning.proofs.take_one.Goals as goal

pub returns : goal.returns
returns c = byte-taken _ _ _ _ c.step_of-step.result (omega arith) c.step_of-step.ensures
