-- `planbits::unpack` meets its contract: the blocks, the whole bytes after them, then the bits of the last. Assumes nothing.
use native.Mathlib.Omega.{arith}
use Rattle.planbits.proofs.Bits.{bits-parts}
use Rattle.planbits.proofs.unpack.Goals as goal

pub unpack_blocks-requires : goal.unpack_blocks-requires
unpack_blocks-requires c = (omega arith, omega arith)

pub unpack_whole-requires : goal.unpack_whole-requires
unpack_whole-requires c = (omega arith, omega arith, omega arith)

pub unpack_rest-requires : goal.unpack_rest-requires
unpack_rest-requires c = (omega arith, omega arith, omega arith)

pub returns : goal.returns
returns c = let a = c.args in
    bits-parts a.body.now a.table.now c.unpack_blocks.new.table c.unpack_whole.new.table _ a.n c.unpack_blocks.ensures
    c.unpack_whole.ensures c.unpack_rest.ensures
