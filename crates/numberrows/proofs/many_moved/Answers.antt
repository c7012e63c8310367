-- `numberrows::many_moved` meets its contract: rows moved, turned over, moved and turned over again. Assumes nothing.
use mathlib.Core.Path.{ap, ◌∙◌}
use Rattle.square.specs.Turned.{turned}
use Rattle.numberrows.specs.Numbers.{moved_by}
use Rattle.numberrows.proofs.Moved.{turned-moved}
use Rattle.numberrows.proofs.many_moved.Goals as goal

pub returns : goal.returns
returns c = let old = c.args.old.now in
    let n = c.args.cells in
    c.turned.ensures
    ∙ ap turned (c.moved_words-2.ensures ∙ ap (λ l. moved_by old n l) (c.turned-columns.ensures ∙ ap turned c.moved_words.ensures))
    ∙ turned-moved old n c.args.rows.now c.requires.0 c.requires.1
