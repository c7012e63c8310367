-- `shortrows::free_bit` meets its contract: a digit is its own test. Assumes nothing.
use Rattle.shortrows.proofs.Bytes.{one_bit}
use Rattle.shortrows.proofs.free_bit.Goals as goal

pub returns : goal.returns
returns c = one_bit c.args.free c.args.p
