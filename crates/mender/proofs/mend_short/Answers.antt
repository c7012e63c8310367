-- `mender::mend_short` meets its contract: the room is enough for so few positions. Assumes nothing.
use native.Mathlib.Omega.{arith}
use Rattle.mender.proofs.Lent.{few-sets}
use Rattle.mender.proofs.mend_short.Goals as goal

pub mend_in-requires : goal.mend_in-requires
mend_in-requires c = (few-sets c.args.site _ 1 c.requires (omega arith), few-sets c.args.site _ 1 c.requires (omega arith))
