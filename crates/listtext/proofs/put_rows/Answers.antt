-- `listtext::put_rows` meets its contract: before cell line i, the lines below it are laid. Assumes nothing.
use Prim.Native.Nat.{ℕ, suc, ◌+◌, ◌≤◌}
use mathlib.Core.Path.{◌≡◌, refl, sym, ap, ◌∙◌}
use native.Mathlib.Nat.{mul-le-mul_right, suc-mul, add-zero}
use native.Mathlib.Omega.{arith}
use lib.ListN.{length, length-append}
use lib.Seq.{sets, length-sets}
use Rattle.laws.proofs.Stores.{sets-append}
use Rattle.theory.specs.Greedy.{row_at}
use Rattle.say_listing.specs.Lines.{cell_listed}
use Rattle.listhead.specs.Listing.{cell_lines}
use Rattle.calltext.proofs.Kept.{put-end, put-inside, put-kept, put_whole}
use Rattle.listtext.proofs.Rows.{line-more, no-shorter}
use Rattle.listtext.proofs.put_rows.Goals as goal

pub loop-i-init : goal.loop-i-init
unfolding cell_lines
loop-i-init c = (refl, sym (add-zero _))

pub row_line-n-requires : goal.row_line-n-requires
row_line-n-requires c = let l = c.loop-i in
    let a = c.args in
    let below : suc l.i ≤ a.rows = omega arith in
    let rows = mul-le-mul_right a.width below in
    let row = suc-mul l.i a.width in
    let q = c.requires.rows_bound in record {
      channels_nonzero = (q.3 (omega arith), q.1);
      i_bound = (omega (arith, q.0), omega (arith, rows, row, q.2));
      in_bounds = omega (arith, c.requires.in_bounds, l.invariant.1);
    }

pub slice_bounds-put_text-end : goal.slice_bounds-put_text-end
slice_bounds-put_text-end c = put-inside c.row_line-n.ensures (omega (arith, c.requires.in_bounds, c.loop-i.auto.line))

pub slice_bounds-put_text-end-in-loop-i : goal.slice_bounds-put_text-end-in-loop-i
slice_bounds-put_text-end-in-loop-i c = put_whole c.row_line-n.ensures (omega (arith, c.requires.in_bounds, c.loop-i.auto.line))

pub put_text-next-requires : goal.put_text-next-requires
put_text-next-requires c = let a = c.args in
    let i = c.loop-i.i in
    let lines = cell_lines a.channels a.width a.table.now 0 i in
    let line = cell_listed (i + 1) a.channels (row_at a.width a.table.now i) in
    omega (
      arith,
      put_whole c.row_line-n.ensures (omega (arith, c.requires.in_bounds, c.loop-i.auto.line)),
      put-end c.row_line-n.ensures,
      c.loop-i.invariant.1,
      ap length c.loop-i.invariant.0,
      length-sets a.out.now a.at lines,
      ap length (line-more a.channels a.width a.table.now i),
      length-append lines line,
      no-shorter a.channels a.width a.table.now (i + 1) a.rows (omega arith),
      c.requires.rows_in_bounds,
    )

pub loop-i-preserved : goal.loop-i-preserved
loop-i-preserved c = let a = c.args in
    let i = c.loop-i.i in
    let lines = cell_lines a.channels a.width a.table.now 0 i in
    let line = cell_listed (i + 1) a.channels (row_at a.width a.table.now i) in
    let kept = put-kept c.row_line-n.ensures (omega (arith, c.requires.in_bounds, c.loop-i.auto.line)) in
    let more = line-more a.channels a.width a.table.now i in (
      c.put_text-next.ensures.stored
          ∙ ap (sets c.loop-i.out c.loop-i.next) kept
          ∙ rw (c.loop-i.invariant.0, c.loop-i.invariant.1) (sym (sets-append a.out.now a.at lines line))
          ∙ ap (sets a.out.now a.at) (sym more),
      omega (arith, c.put_text-next.ensures.next, ap length kept, c.loop-i.invariant.1, ap length more, length-append lines line),
    )

pub returns : goal.returns
returns c = let a = c.args in
    let e : c.loop-i.i ≡ a.rows = omega arith in
    c.loop-i.invariant.0 ∙ ap (λ (k : ℕ). sets a.out.now a.at (cell_lines a.channels a.width a.table.now 0 k)) e
