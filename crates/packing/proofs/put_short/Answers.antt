-- `packing::put_short` meets its contract: the first word has all the positions, and past it none is reserved. Assumes nothing.
use mathlib.Core.Path.{ap, ◌∙◌}
use lib.Seq.{sets}
use Rattle.laws.proofs.Stores.{list-eq}
use Rattle.positions.specs.Blocked.{word_in}
use Rattle.packing.specs.Packed.{in_row, one_of}
use Rattle.packing.proofs.Packed.{short-words}
use Rattle.packing.proofs.put_short.Goals as goal

pub returns : goal.returns
returns c = let a = c.args in
    c.put_two.ensures
    ∙ ap (sets a.set.now 0)
    (list-eq (one_of c.short_word-x.result 0) (word_in (in_row a.row.now)) a.w (λ d _.
    short-words a.row.now c.requires.0 c.short_word-x.result c.short_word-x.ensures d))
