-- `reachpairs::put_pair` meets its contract: the two bytes are stored as they are due. Assumes nothing.
use mathlib.Core.Path.{refl}
use Rattle.reachpairs.proofs.put_pair.Goals as goal

pub returns : goal.returns
returns c = record { value = refl; out_after = c.put_two.ensures }
