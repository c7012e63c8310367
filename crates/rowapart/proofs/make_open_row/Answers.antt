-- `rowapart::make_open_row` meets its contract: the row is laid, marked and filled. Assumes nothing.
use mathlib.Core.Path.{ap, ◌∙◌}
use mathlib.Core.List.{List}
use Prim.Native.Nat.{ℕ, ◌*◌}
use Rattle.laws.specs.Bits.{bit_in}
use Rattle.laws.specs.Part.{put}
use Rattle.theory.specs.Net.{unblocked}
use Rattle.theory.specs.Greedy.{fill}
use Rattle.rows.specs.Stretch.{filled_by}
use Rattle.rows.specs.declared.Filled.{Filled}
use Rattle.planrows.proofs.Sent.{same-but-is, planned-sends}
use Rattle.rowapart.proofs.make_open_row.Goals as goal

pub returns : goal.returns
returns c = let a = c.args in
    let n = a.slots * a.channels in
    let marks = c.lay_open-cells.ensures.marks in
    let row = c.take_marked.ensures.row ∙ ap (fill unblocked 0 a.load) marks in
    let answer = c.take_marked.ensures.answer ∙ ap (filled_by a.slots a.channels a.load) marks in record {
      row = row;
      short = ap (λ (f : Filled). f.left) answer;
      stretch = planned-sends n (bit_in a.clash.now) a.i a.table.now c.requires.i_bound.3 unblocked a.load _ _
          (ap (λ (r : List ℕ). put (a.i * n) n r a.table.now) row)
          (same-but-is marks (ap (fill unblocked 0 a.load) marks) c.take_marked.ensures.stretch);
      answer = answer;
    }
