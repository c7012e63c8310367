-- `rowapart::take_marked` meets its contract: the row is marked, and filled. Assumes nothing.
use mathlib.Core.Path.{ap, ◌∙◌}
use Rattle.theory.specs.Net.{unblocked}
use Rattle.theory.specs.Greedy.{fill}
use Rattle.rows.specs.Stretch.{filled_by}
use Rattle.planrows.proofs.Sent.{same-but-is}
use Rattle.rowapart.proofs.take_marked.Goals as goal

pub returns : goal.returns
returns c = let a = c.args in
    let marks = c.mark_by.ensures in
    let row = c.fill_row.ensures.filled ∙ ap (fill unblocked 0 a.load) marks in record {
      row = row;
      stretch = same-but-is marks row c.fill_row.ensures.stretch;
      answer = c.fill_row.ensures.answer ∙ ap (filled_by a.slots a.channels a.load) marks;
    }
