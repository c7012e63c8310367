-- `shortrows::byte_at` meets its contract: a digit is its own test. Assumes nothing.
use Rattle.shortrows.proofs.Bytes.{byte-sum}
use Rattle.shortrows.proofs.byte_at.Goals as goal

pub returns : goal.returns
returns c = byte-sum c.args.taken c.args.p
