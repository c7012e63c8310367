-- `planbits::unpack_block` meets its contract: three passes leave the bits of the block. Assumes nothing.
use Rattle.planbits.proofs.Halves.{block-bits}
use Rattle.planbits.proofs.unpack_block.Goals as goal

pub returns : goal.returns
returns c = let a = c.args in
    block-bits a.body.now a.j c.part_pairs.new.out c.part_pairs-2.new.out c.part_pairs.ensures c.part_pairs-2.ensures a.table.now _
    c.part_pairs-3.ensures
