-- `planrows::mark_row` meets its contract: what is taken over and what the other cells mark are all the marks. Assumes nothing.
use mathlib.Core.Path.{◌≡◌, ap, ◌∙◌}
use mathlib.Core.List.{List}
use Prim.Native.Nat.{ℕ, ◌+◌, ◌*◌, ◌≤◌}
use native.Mathlib.Omega.{arith}
use lib.ListN.{length}
use Rattle.laws.specs.Bits.{bit_in}
use Rattle.laws.specs.Part.{part, put}
use Rattle.laws.proofs.Part.{length_part, put-put}
use Rattle.planrows.specs.Row.{marks_here}
use Rattle.planrows.proofs.Sent.{before-put}
use Rattle.planrows.proofs.mark_row.Goals as goal

pub take_over-left-requires : goal.take_over-left-requires
take_over-left-requires c = record { i_bound = c.requires.i_bound; rows_marked = c.requires.rows_before.1 }

pub mark_by-requires : goal.mark_by-requires
mark_by-requires c =
    let fits : (c.args.i) * (c.args.n) + (c.args.n) ≤ length (c.take_over-left.new.table) = omega (arith, c.requires.i_bound.1, c.take_over-left.auto.table) in
    let long : length (part ((c.args.i) * (c.args.n)) (c.args.n) (c.take_over-left.new.table)) ≡ (c.args.n) = length_part ((c.args.i) * (c.args.n)) (c.args.n)
    (c.take_over-left.new.table) fits in
    let before = before-put (c.args.n) (c.args.i) (part ((c.args.i) * (c.args.n)) (c.args.n)
    (c.take_over-left.new.table)) c.args.table.now c.args.clash.now c.args.starts.now
    c.args.ends.now long c.requires.i_bound.1 c.requires.rows_before c.take_over-left.ensures.row in record {
      i_bound =
          (c.requires.i_bound.0, fits, c.take_over-left.ensures.few);
      sending = before.0;
    }

pub returns : goal.returns
returns c =
    let fits : (c.args.i) * (c.args.n) + (c.args.n) ≤ length (c.take_over-left.new.table) = omega (arith, c.requires.i_bound.1, c.take_over-left.auto.table) in
    let long : length (part ((c.args.i) * (c.args.n)) (c.args.n) (c.take_over-left.new.table)) ≡ (c.args.n) = length_part ((c.args.i) * (c.args.n)) (c.args.n)
    (c.take_over-left.new.table) fits in
    let t = c.args.table.now in
    let m = marks_here (c.args.n) (bit_in c.args.clash.now) t (c.args.i) in
    c.mark_by.ensures
    ∙ ap (λ (r : List ℕ). put ((c.args.i) * (c.args.n)) (c.args.n) r (c.take_over-left.new.table)) c.take_over-left.ensures.marks
    ∙ ap (put ((c.args.i) * (c.args.n)) (c.args.n) m) c.take_over-left.ensures.row
    ∙ put-put ((c.args.i) * (c.args.n)) (c.args.n) (part ((c.args.i) * (c.args.n)) (c.args.n) (c.take_over-left.new.table)) t long c.requires.i_bound.1 m
