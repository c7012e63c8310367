-- `mender::mend_only_small` meets its contract: the room is enough for so few positions. Assumes nothing.
use native.Mathlib.Omega.{arith}
use Rattle.mender.proofs.Lent.{few-sets, few-row}
use Rattle.mender.proofs.mend_only_small.Goals as goal

pub mend_only_in-requires : goal.mend_only_in-requires
mend_only_in-requires c = let site = c.args.site in (
  few-row site _ 2 c.requires (omega arith),
  few-sets site _ 2 c.requires (omega arith),
  few-sets site _ 2 c.requires (omega arith),
)
