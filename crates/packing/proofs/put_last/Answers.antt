-- `packing::put_last` meets its contract: the plain words of the last block have its positions, and past it none is reserved. Assumes nothing.
use mathlib.Core.Path.{ap, ◌∙◌}
use Prim.Native.Nat.{◌+◌, ◌-◌, ◌*◌}
use lib.Seq.{sets}
use Rattle.laws.proofs.Stores.{list-eq}
use Rattle.positions.specs.Blocked.{word_in}
use Rattle.packing.specs.Packed.{in_row, one_of}
use Rattle.packing.proofs.Packed.{last_word-law}
use Rattle.packing.proofs.put_last.Goals as goal

pub returns : goal.returns
returns c = let a = c.args in
    c.put_two.ensures
    ∙ ap (sets a.set.now (2 * a.m))
    (list-eq (one_of c.first_plain-x.result c.second_plain-y.result) (λ d. word_in (in_row a.row.now) (2 * a.m + d)) (a.w - 2 * a.m) (λ d _.
    last_word-law a.row.now a.m _ _ c.first_plain-x.result c.second_plain-y.result c.requires.1 c.last_block-block.ensures.low c.last_block-block.ensures.high
    c.first_plain-x.ensures c.second_plain-y.ensures d))
