-- `planrows::take_row` meets its contract: the row is marked in the table, and lent and filled. Assumes nothing.
use mathlib.Core.Path.{ap, ◌∙◌}
use Prim.Native.Nat.{◌*◌}
use mathlib.Core.List.{List}
use Prim.Native.Nat.{ℕ}
use Rattle.laws.specs.Bits.{bit_in}
use Rattle.laws.specs.Part.{put}
use Rattle.theory.specs.Net.{unblocked}
use Rattle.theory.specs.Greedy.{fill}
use Rattle.planrows.specs.Row.{marks_here}
use Rattle.planrows.proofs.Marked.{here-long, lent-put, back-put}
use Rattle.planrows.proofs.Sent.{same-but-is}
use Rattle.rows.specs.Stretch.{filled_by}
use Rattle.rows.specs.declared.Filled.{Filled}
use Rattle.planrows.proofs.take_row.Goals as goal

pub returns : goal.returns
returns c = let n = c.args.slots * c.args.channels in
    let i = c.args.i in
    let t = c.args.table.now in
    let m = marks_here n (bit_in c.args.clash.now) t i in
    let long = here-long n (bit_in c.args.clash.now) i t c.requires.i_bound.2 i in
    let lent = lent-put (i * n) n m t long c.requires.i_bound.2 c.mark_row.ensures in
    let row = c.fill_row.ensures.filled ∙ ap (fill unblocked 0 c.args.load) lent in
    let answer = c.fill_row.ensures.answer ∙ ap (filled_by c.args.slots c.args.channels c.args.load) lent in record {
      row = back-put (i * n) n m t long c.requires.i_bound.2 c.mark_row.ensures c.fill_row.new.row
          ∙ ap (λ (r : List ℕ). put (i * n) n r t) row;
      short = ap (λ (f : Filled). f.left) answer;
      stretch = same-but-is lent row c.fill_row.ensures.stretch;
      answer = answer;
    }
