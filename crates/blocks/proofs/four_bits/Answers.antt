-- `blocks::four_bits` meets its contract: the sum of four bits is the word of the tests. Assumes nothing.
use native.Mathlib.Omega.{arith}
use Rattle.blocks.proofs.Columns.{four_is}
use Rattle.blocks.proofs.four_bits.Goals as goal

pub returns : goal.returns
returns c = (four_is c.args.word c.args.at, omega arith)
