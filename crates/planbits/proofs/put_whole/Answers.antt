-- `planbits::put_whole` meets its contract: the blocks, and the rest after them. Assumes nothing.
use Prim.Native.Nat.{◌*◌, ◌/◌}
use native.Mathlib.Omega.{arith}
use Rattle.planbits.proofs.Block.{put_all}
use Rattle.planbits.proofs.put_whole.Goals as goal

pub returns : goal.returns
returns c = let a = c.args in
    rw (c.put_rest.ensures, c.put_blocks.ensures) (put_all a.table.now a.out.now a.at (32 * (a.m / 32)) a.m (omega arith))
