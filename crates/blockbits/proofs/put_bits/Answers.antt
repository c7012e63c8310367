-- `blockbits::put_bits` meets its contract: before byte j, the bytes below it are stored. Assumes nothing.
use Rattle.std.proofs.Common.{refl}
use Rattle.laws.specs.Part.{list_of}
use Rattle.laws.proofs.Stores.{sets-after}
use Rattle.blockbits.specs.Blocks.{block_byte}
use Rattle.blockbits.proofs.put_bits.Goals as goal

pub loop-j-init : goal.loop-j-init
unfolding list_of
loop-j-init c = refl

pub loop-j-preserved : goal.loop-j-preserved
loop-j-preserved c = let l = c.loop-j in
    sets-after (block_byte c.args.set.now) c.args.at l.j c.block_byte.result l.out c.args.out.now c.block_byte.ensures l.invariant
