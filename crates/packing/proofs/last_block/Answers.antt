-- `packing::last_block` meets its contract: the copy has the row's bytes, and zeros past them. Assumes nothing.
use mathlib.Core.Path.{◌∙◌}
use Rattle.packing.proofs.Packed.{rest-low, rest-high}
use Rattle.packing.proofs.last_block.Goals as goal

pub returns : goal.returns
returns c = let a = c.args in record {
  low = c.block_of.ensures.low
      ∙ rest-low a.row.now c.copy_rest.new.bytes a.from c.requires.0 c.requires.1 c.copy_rest.ensures;
  high = c.block_of.ensures.high
      ∙ rest-high a.row.now c.copy_rest.new.bytes a.from c.requires.0 c.requires.1 c.copy_rest.ensures;
}
