-- `listtext::lay_listing` meets its contract: the lines are as long as they were measured, and are laid after the head. Assumes nothing.
use Prim.Native.Nat.{ℕ, ◌+◌, ◌≤◌}
use mathlib.Core.Path.{◌≡◌, sym, ◌∙◌}
use mathlib.Core.List.{◌++◌}
use native.Mathlib.Omega.{arith}
use lib.ListN.{length, length-append, replicate, length-replicate}
use Rattle.laws.proofs.Stores.{sets-append}
use Rattle.records.proofs.Write.{written-done, written-short, laid_done, laid-short}
use Rattle.listhead.specs.Listing.{cell_lines}
use Rattle.listtext.proofs.lay_listing.Goals as goal

room : 24576 ≤ length (replicate {A = ℕ} 24576 0)
room = omega (arith, length-replicate {A = ℕ} 24576 0)

pub rows_len-more-requires : goal.rows_len-more-requires
rows_len-more-requires c = record { rows_bound = c.requires.rows_bound; in_bounds = room }

pub overflow_add-need : goal.overflow_add-need
overflow_add-need c = omega (arith, c.rows_len-more.ensures.1, c.requires.rows_bound.0, c.requires.head_len_bound)

pub returns-then-out-need : goal.returns-then-out-need
returns-then-out-need c =
    let measured : length c.args.head.now + c.rows_len-more.result ≡ length
    (c.args.head.now ++ cell_lines c.args.channels c.args.width c.args.table.now 0 c.args.rows) = let a = c.args in
    let lines = cell_lines a.channels a.width a.table.now 0 a.rows in
    omega (arith, c.rows_len-more.ensures.0, length-append a.head.now lines) in
    let e = measured in record { answer = written-short _ _ _ e c.if-out-need.true; out = laid-short _ _ (omega (arith, e, c.if-out-need.true)) }

pub put_text-at-requires : goal.put_text-at-requires
put_text-at-requires c = omega (arith, c.if-out-need.false)

pub slice_bounds-put_rows-end : goal.slice_bounds-put_rows-end
slice_bounds-put_rows-end c = sym (c.rows_len-more.auto.line ∙ length-replicate {A = ℕ} 24576 0)

pub put_rows-requires : goal.put_rows-requires
put_rows-requires c = record {
  rows_bound = c.requires.rows_bound;
  in_bounds = omega (arith, c.rows_len-more.auto.line, room);
  rows_in_bounds = omega
      (arith, c.put_text-at.ensures.next, c.rows_len-more.ensures.0, c.if-out-need.false, c.put_text-at.auto.out);
}

pub shape_of-out : goal.shape_of-out
shape_of-out c = c.put_rows.auto.out ∙ c.put_text-at.auto.out

pub returns : goal.returns
returns c =
    let measured : length c.args.head.now + c.rows_len-more.result ≡ length
    (c.args.head.now ++ cell_lines c.args.channels c.args.width c.args.table.now 0 c.args.rows) = let a = c.args in
    let lines = cell_lines a.channels a.width a.table.now 0 a.rows in
    omega (arith, c.rows_len-more.ensures.0, length-append a.head.now lines) in
    let a = c.args in
    let lines = cell_lines a.channels a.width a.table.now 0 a.rows in
    let e = measured in
    let fits = c.if-out-need.false in record {
      answer = written-done _ _ _ e fits;
      out = c.put_rows.ensures
          ∙ rw (c.put_text-at.ensures.stored, c.put_text-at.ensures.next) (sym (sets-append a.out.now 0 a.head.now lines))
          ∙ laid_done (a.head.now ++ lines) a.out.now (omega (arith, e, fits));
    }
