-- `wordforms::lifted` meets its contract: a byte that is shifted by at most 24 bits fits. Assumes nothing.
use native.Mathlib.Omega.{arith}
use lib.Pow.{shl_exact}
use Rattle.wordforms.proofs.lifted.Goals as goal

pub returns : goal.returns
returns c = shl_exact 8 c.args.i 32 (omega arith) (omega arith)
