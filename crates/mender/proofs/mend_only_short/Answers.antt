-- `mender::mend_only_short` meets its contract: the room is enough for so few positions. Assumes nothing.
use native.Mathlib.Omega.{arith}
use Rattle.mender.proofs.Lent.{few-sets, few-row}
use Rattle.mender.proofs.mend_only_short.Goals as goal

pub mend_only_in-requires : goal.mend_only_in-requires
mend_only_in-requires c = let site = c.args.site in (
  few-row site _ 1 c.requires (omega arith),
  few-sets site _ 1 c.requires (omega arith),
  few-sets site _ 1 c.requires (omega arith),
)
