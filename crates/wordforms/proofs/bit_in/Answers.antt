-- `wordforms::bit_in-law` meets its contract: a digit is its own test. Assumes nothing.
use native.Mathlib.Nat.{mod-lt}
use lib.Dec.{lit<}
use Rattle.laws.proofs.Bits.{digit}
use Rattle.wordforms.proofs.bit_in.Goals as goal

pub returns : goal.returns
returns c = digit _ (mod-lt _ (lit< tt))
