-- `blocks::column` meets its contract: the sum of the weights is the word of the tests. Assumes nothing.
use native.Mathlib.Omega.{arith}
use Rattle.blocks.proofs.Columns.{column-is}
use Rattle.blocks.proofs.column.Goals as goal

pub returns : goal.returns
returns c = let v = c.args in
    omega (
      arith,
      c.bits_if-h.ensures.0,
      c.bits_if-g.ensures.0,
      c.bits_if-f.ensures.0,
      c.bits_if-e.ensures.0,
      c.bits_if-d.ensures.0,
      c.bits_if-c.ensures.0,
      c.bits_if-b.ensures.0,
      c.bits_if-a.ensures.0,
      column-is v.bytes.now v.at,
    )
