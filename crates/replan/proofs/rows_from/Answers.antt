-- `replan::rows_from` meets its contract. At each head of the loop the run of the first i cells has given the first i rows of the table, and the bytes past the
-- site's are as they were. Each of these rows sends in the stretch that is noted of it (`Sending`). Assumes nothing.
use mathlib.Core.Path.{◌≡◌, refl, sym, ap, ◌∙◌}
use mathlib.Core.List.{List}
use Prim.Native.Nat.{ℕ, ◌+◌, ◌-◌, ◌*◌, ◌≤◌, ◌<◌}
use native.Mathlib.Omega.{arith}
use borrow.Rule.Slice.PartMut.{put_mid}
use lib.ListN.{length, get_or, drop, length-set}
use lib.Seq.{length-take-le, length_front, take_all}
use Rattle.laws.specs.Bits.{bit_in}
use Rattle.laws.specs.Part.{put}
use Rattle.laws.proofs.Grid.{row_before}
use Rattle.laws.proofs.Part.{back}
use Rattle.site.specs.Reach.{net_by}
use Rattle.planrows.specs.Row.{row_planned, opens}
use Rattle.planrows.proofs.Marked.{masked, masked-fits}
use Rattle.planrows.proofs.Sent.{sends-in-is, sending-more}
use Rattle.planner.specs.Plan.{answer_of}
use Rattle.planner.proofs.Before.{planned-marked}
use Rattle.planner.proofs.Cells.{more-long, more-drop, more-planned, more-short, end-done, end_short}
use Rattle.replan.proofs.rows_from.Goals as goal

pub overflow_mul-n : goal.overflow_mul-n
overflow_mul-n c = omega (arith, c.requires.first_le_cells.3)

pub loop-i-init : goal.loop-i-init
loop-i-init c = (
  c.requires.planned_to.0,
  refl,
  c.requires.row_len.0,
  c.requires.row_len.1,
  c.requires.row_len.2,
  refl,
  omega
      (arith, c.requires.first_le_cells.0),
  c.requires.planned_to.1,
)

pub load_of-load-requires : goal.load_of-load-requires
load_of-load-requires c =
    let low : c.loop-i.i < 32 = omega (arith, c.loop-i-test.true, c.requires.first_le_cells.1) in
    low

pub make_row-made-requires : goal.make_row-made-requires
make_row-made-requires c =
    let inside : c.loop-i.i * (c.args.slots * c.args.channels) + (c.args.slots * c.args.channels) ≤
    (c.args.cells * (c.args.slots * c.args.channels)) = row_before (c.args.slots * c.args.channels) c.loop-i-test.true in
    let holds : (c.args.cells * (c.args.slots * c.args.channels)) ≤ length c.loop-i.table = omega (arith, c.requires.first_le_cells.4, c.loop-i.invariant.1) in
    let fits : c.loop-i.i * (c.args.slots * c.args.channels) + (c.args.slots * c.args.channels) ≤ length c.loop-i.table = omega (arith, inside, holds) in
    let low : c.loop-i.i < 32 = omega (arith, c.loop-i-test.true, c.requires.first_le_cells.1) in
    let l = c.loop-i in record {
      i_bound = (low, c.requires.first_le_cells.2, l.invariant.2, fits);
      rows_before = (
        l.invariant.7,
        (
          planned-marked (net_by c.args.cells (c.args.slots * c.args.channels) (c.args.loads.now) c.args.clash.now
              (opens c.args.mask.now)) l.i l.table l.invariant.0,
          c.requires.planned_to.3,
        ),
      );
      masks = c.requires.planned_to.2;
    }

pub overflow_mul-size : goal.overflow_mul-size
overflow_mul-size c = omega (arith, c.requires.first_le_cells.4, c)

pub slice_bounds-clear-end : goal.slice_bounds-clear-end
slice_bounds-clear-end c =
    let holds : (c.args.cells * (c.args.slots * c.args.channels)) ≤ length c.loop-i.table = omega (arith, c.requires.first_le_cells.4, c.loop-i.invariant.1) in
    holds

pub slice_bounds-clear-end-then-short-gt0 : goal.slice_bounds-clear-end-then-short-gt0
slice_bounds-clear-end-then-short-gt0 c =
    let holds : (c.args.cells * (c.args.slots * c.args.channels)) ≤ length c.loop-i.table = omega (arith, c.requires.first_le_cells.4, c.loop-i.invariant.1) in
    sym (length-take-le (c.args.cells * (c.args.slots * c.args.channels)) (c.loop-i.table) holds)

pub shape_of-table-then-short-gt0 : goal.shape_of-table-then-short-gt0
shape_of-table-then-short-gt0 c = length_front (c.loop-i.table) c.clear.new.bytes (c.args.cells * (c.args.slots * c.args.channels)) c.clear.auto.bytes
    ∙ c.loop-i.invariant.1

pub shape_of-row-then-short-gt0 : goal.shape_of-row-then-short-gt0
shape_of-row-then-short-gt0 c =
    let made-long : length (c.make_row-made.new.row) ≡ (c.args.slots * c.args.channels) = omega (arith, c.make_row-made.auto.row, c.loop-i.invariant.2) in
    made-long ∙ sym c.requires.row_len.0

pub returns-then-short-gt0 : goal.returns-then-short-gt0
returns-then-short-gt0 c =
    let inside : c.loop-i.i * (c.args.slots * c.args.channels) + (c.args.slots * c.args.channels) ≤
    (c.args.cells * (c.args.slots * c.args.channels)) = row_before (c.args.slots * c.args.channels) c.loop-i-test.true in
    let holds : (c.args.cells * (c.args.slots * c.args.channels)) ≤ length c.loop-i.table = omega (arith, c.requires.first_le_cells.4, c.loop-i.invariant.1) in
    let fits : c.loop-i.i * (c.args.slots * c.args.channels) + (c.args.slots * c.args.channels) ≤ length c.loop-i.table = omega (arith, inside, holds) in
    let own : (c.load_of-load.result) ≡ get_or (c.args.loads.now) (c.loop-i.i) 0 = c.load_of-load.ensures in
    let is : put ((c.loop-i.i) * (c.args.slots * c.args.channels)) (c.args.slots * c.args.channels) (c.make_row-made.new.row) (c.loop-i.table) ≡ row_planned
    (c.args.slots * c.args.channels) (bit_in c.args.clash.now) (opens c.args.mask.now) (c.loop-i.i) (c.load_of-load.result) (c.loop-i.table) = ap
    (λ (r : List ℕ). put ((c.loop-i.i) * (c.args.slots * c.args.channels)) (c.args.slots * c.args.channels) r
    (c.loop-i.table)) c.make_row-made.ensures.row in
    let a = c.args in
    let e = more-short a.cells (c.args.slots * c.args.channels) (c.args.loads.now) (bit_in c.args.clash.now) (opens c.args.mask.now) (c.loop-i.i)
    (c.loop-i.table) fits own is c.loop-i.invariant.0
    c.make_row-made.ensures.short (omega (arith, c.if-short-gt0.true)) a.cells c.loop-i-test.true in record {
      answer = sym (ap answer_of e);
      table = end_short (c.args.cells * (c.args.slots * c.args.channels)) c.clear.new.bytes (c.loop-i.table) a.table.now e holds c.clear.ensures
          c.loop-i.invariant.5;
    }

pub overflow_mul-from : goal.overflow_mul-from
overflow_mul-from c =
    let inside : c.loop-i.i * (c.args.slots * c.args.channels) + (c.args.slots * c.args.channels) ≤
    (c.args.cells * (c.args.slots * c.args.channels)) = row_before (c.args.slots * c.args.channels) c.loop-i-test.true in
    let holds : (c.args.cells * (c.args.slots * c.args.channels)) ≤ length c.loop-i.table = omega (arith, c.requires.first_le_cells.4, c.loop-i.invariant.1) in
    let fits : c.loop-i.i * (c.args.slots * c.args.channels) + (c.args.slots * c.args.channels) ≤ length c.loop-i.table = omega (arith, inside, holds) in
    omega (arith, fits, c.loop-i.invariant.1, c)

pub overflow_add-to : goal.overflow_add-to
overflow_add-to c =
    let inside : c.loop-i.i * (c.args.slots * c.args.channels) + (c.args.slots * c.args.channels) ≤
    (c.args.cells * (c.args.slots * c.args.channels)) = row_before (c.args.slots * c.args.channels) c.loop-i-test.true in
    let holds : (c.args.cells * (c.args.slots * c.args.channels)) ≤ length c.loop-i.table = omega (arith, c.requires.first_le_cells.4, c.loop-i.invariant.1) in
    let fits : c.loop-i.i * (c.args.slots * c.args.channels) + (c.args.slots * c.args.channels) ≤ length c.loop-i.table = omega (arith, inside, holds) in
    omega (arith, fits, c.loop-i.invariant.1, c)

pub slice_bounds-lay_mask-count : goal.slice_bounds-lay_mask-count
slice_bounds-lay_mask-count c = omega arith

pub slice_bounds-lay_mask-start : goal.slice_bounds-lay_mask-start
slice_bounds-lay_mask-start c = omega arith

pub slice_bounds-lay_mask-end : goal.slice_bounds-lay_mask-end
slice_bounds-lay_mask-end c =
    let inside : c.loop-i.i * (c.args.slots * c.args.channels) + (c.args.slots * c.args.channels) ≤
    (c.args.cells * (c.args.slots * c.args.channels)) = row_before (c.args.slots * c.args.channels) c.loop-i-test.true in
    let holds : (c.args.cells * (c.args.slots * c.args.channels)) ≤ length c.loop-i.table = omega (arith, c.requires.first_le_cells.4, c.loop-i.invariant.1) in
    let fits : c.loop-i.i * (c.args.slots * c.args.channels) + (c.args.slots * c.args.channels) ≤ length c.loop-i.table = omega (arith, inside, holds) in
    omega (arith, fits)

pub lay_mask-requires : goal.lay_mask-requires
lay_mask-requires c =
    let inside : c.loop-i.i * (c.args.slots * c.args.channels) + (c.args.slots * c.args.channels) ≤
    (c.args.cells * (c.args.slots * c.args.channels)) = row_before (c.args.slots * c.args.channels) c.loop-i-test.true in
    let holds : (c.args.cells * (c.args.slots * c.args.channels)) ≤ length c.loop-i.table = omega (arith, c.requires.first_le_cells.4, c.loop-i.invariant.1) in
    let fits : c.loop-i.i * (c.args.slots * c.args.channels) + (c.args.slots * c.args.channels) ≤ length c.loop-i.table = omega (arith, inside, holds) in
    let made-long : length (c.make_row-made.new.row) ≡ (c.args.slots * c.args.channels) = omega (arith, c.make_row-made.auto.row, c.loop-i.invariant.2) in
    masked-fits _ (c.args.slots * c.args.channels) (c.loop-i.table) (omega (arith, fits)) (omega (arith, made-long))

pub overflow_cast-starts : goal.overflow_cast-starts
overflow_cast-starts c =
    let short-places : (c.make_row-made.result.from ≤ 2048) × (c.make_row-made.result.to ≤ 2048) = let s = c.make_row-made.ensures.stretch in
    let few : (c.args.slots * c.args.channels) ≤ 2048 = c.requires.first_le_cells.3 in
    (omega (arith, s.0, s.1, few), omega (arith, s.1, few)) in
    omega (arith, short-places.0)

pub overflow_cast-ends : goal.overflow_cast-ends
overflow_cast-ends c =
    let short-places : (c.make_row-made.result.from ≤ 2048) × (c.make_row-made.result.to ≤ 2048) = let s = c.make_row-made.ensures.stretch in
    let few : (c.args.slots * c.args.channels) ≤ 2048 = c.requires.first_le_cells.3 in
    (omega (arith, s.0, s.1, few), omega (arith, s.1, few)) in
    omega (arith, short-places.1)

pub offset_bounds-ends-i : goal.offset_bounds-ends-i
offset_bounds-ends-i c =
    let low : c.loop-i.i < 32 = omega (arith, c.loop-i-test.true, c.requires.first_le_cells.1) in
    omega (arith, low)

pub bounds-ends-i : goal.bounds-ends-i
bounds-ends-i c =
    let low : c.loop-i.i < 32 = omega (arith, c.loop-i-test.true, c.requires.first_le_cells.1) in
    omega (arith, low)

pub overflow_step-i : goal.overflow_step-i
overflow_step-i c =
    let low : c.loop-i.i < 32 = omega (arith, c.loop-i-test.true, c.requires.first_le_cells.1) in
    omega (arith, low)

pub loop-i-smaller : goal.loop-i-smaller
loop-i-smaller c = omega (arith, c.loop-i-test.true)

pub loop-i-preserved : goal.loop-i-preserved
loop-i-preserved c =
    let inside : c.loop-i.i * (c.args.slots * c.args.channels) + (c.args.slots * c.args.channels) ≤
    (c.args.cells * (c.args.slots * c.args.channels)) = row_before (c.args.slots * c.args.channels) c.loop-i-test.true in
    let holds : (c.args.cells * (c.args.slots * c.args.channels)) ≤ length c.loop-i.table = omega (arith, c.requires.first_le_cells.4, c.loop-i.invariant.1) in
    let fits : c.loop-i.i * (c.args.slots * c.args.channels) + (c.args.slots * c.args.channels) ≤ length c.loop-i.table = omega (arith, inside, holds) in
    let low : c.loop-i.i < 32 = omega (arith, c.loop-i-test.true, c.requires.first_le_cells.1) in
    let own : (c.load_of-load.result) ≡ get_or (c.args.loads.now) (c.loop-i.i) 0 = c.load_of-load.ensures in
    let made-long : length (c.make_row-made.new.row) ≡ (c.args.slots * c.args.channels) = omega (arith, c.make_row-made.auto.row, c.loop-i.invariant.2) in
    let is : put ((c.loop-i.i) * (c.args.slots * c.args.channels)) (c.args.slots * c.args.channels) (c.make_row-made.new.row) (c.loop-i.table) ≡ row_planned
    (c.args.slots * c.args.channels) (bit_in c.args.clash.now) (opens c.args.mask.now) (c.loop-i.i) (c.load_of-load.result) (c.loop-i.table) = ap
    (λ (r : List ℕ). put ((c.loop-i.i) * (c.args.slots * c.args.channels)) (c.args.slots * c.args.channels) r
    (c.loop-i.table)) c.make_row-made.ensures.row in
    let laid : (put_mid ((c.loop-i.i) * (c.args.slots * c.args.channels))
    ((c.loop-i.i) * (c.args.slots * c.args.channels) + (c.args.slots * c.args.channels) - (c.loop-i.i) * (c.args.slots * c.args.channels))
    (c.loop-i.table) c.lay_mask.new.row) ≡ put ((c.loop-i.i) * (c.args.slots * c.args.channels)) (c.args.slots * c.args.channels)
    (c.make_row-made.new.row) (c.loop-i.table) = let n = (c.args.slots * c.args.channels) in
    let whole_row : length (c.make_row-made.new.row) ≤ n = omega (arith, made-long) in
    back ((c.loop-i.i) * n) n (c.loop-i.table) c.lay_mask.new.row
    ∙ ap (λ (r : List ℕ). put ((c.loop-i.i) * n) n r (c.loop-i.table))
    (masked ((c.loop-i.i) * n) n (c.loop-i.table) (c.make_row-made.new.row) fits c.lay_mask.ensures ∙ take_all n (c.make_row-made.new.row) whole_row) in
    let stands : (put_mid ((c.loop-i.i) * (c.args.slots * c.args.channels))
    ((c.loop-i.i) * (c.args.slots * c.args.channels) + (c.args.slots * c.args.channels) - (c.loop-i.i) * (c.args.slots * c.args.channels))
    (c.loop-i.table) c.lay_mask.new.row) ≡ row_planned (c.args.slots * c.args.channels) (bit_in c.args.clash.now) (opens c.args.mask.now) (c.loop-i.i)
    (c.load_of-load.result) (c.loop-i.table) = laid ∙ is in
    let long : length (put_mid ((c.loop-i.i) * (c.args.slots * c.args.channels))
    ((c.loop-i.i) * (c.args.slots * c.args.channels) + (c.args.slots * c.args.channels) - (c.loop-i.i) * (c.args.slots * c.args.channels))
    (c.loop-i.table) c.lay_mask.new.row) ≡ length (c.loop-i.table) = more-long c.args.cells (c.args.slots * c.args.channels) (c.args.loads.now)
    (bit_in c.args.clash.now) (opens c.args.mask.now) (c.loop-i.i) (c.loop-i.table) fits
    own stands in
    let past : drop (c.args.cells * (c.args.slots * c.args.channels))
    (put_mid ((c.loop-i.i) * (c.args.slots * c.args.channels))
    ((c.loop-i.i) * (c.args.slots * c.args.channels) + (c.args.slots * c.args.channels) - (c.loop-i.i) * (c.args.slots * c.args.channels))
    (c.loop-i.table) c.lay_mask.new.row) ≡ drop (c.args.cells * (c.args.slots * c.args.channels)) c.args.table.now = more-drop c.args.cells
    (c.args.slots * c.args.channels) (c.args.loads.now) (bit_in c.args.clash.now) (opens c.args.mask.now) (c.loop-i.i) (c.loop-i.table) fits own
    stands (c.args.cells * (c.args.slots * c.args.channels)) inside
    ∙ c.loop-i.invariant.5 in
    let a = c.args in
    let l = c.loop-i in
    let none : c.make_row-made.result.left ≡ 0 = omega arith in (
      more-planned a.cells (c.args.slots * c.args.channels) (c.args.loads.now) (bit_in c.args.clash.now) (opens c.args.mask.now) (c.loop-i.i)
          (c.loop-i.table) fits own stands l.invariant.0
          c.make_row-made.ensures.short none,
      long ∙ l.invariant.1,
      made-long,
      simp length-set l.invariant.3,
      simp length-set l.invariant.4,
      past,
      omega (arith, c.loop-i-test.true),
      sending-more (c.args.slots * c.args.channels) (bit_in c.args.clash.now) (c.loop-i.i) (c.loop-i.table) fits (opens c.args.mask.now)
          (c.load_of-load.result) stands l.starts l.ends
          (omega (arith, low, l.invariant.3)) (omega (arith, low, l.invariant.4)) l.invariant.7 _ _
          (sends-in-is (c.args.slots * c.args.channels) (c.loop-i.i) laid refl refl c.make_row-made.ensures.stretch),
    )

pub shape_of-table : goal.shape_of-table
shape_of-table c = c.loop-i.invariant.1

pub shape_of-row : goal.shape_of-row
shape_of-row c = c.loop-i.invariant.2 ∙ sym c.requires.row_len.0

pub returns : goal.returns
returns c = let a = c.args in
    let l = c.loop-i in
    let last : l.i ≡ a.cells = omega (arith, c.loop-i-test.false, l.invariant.6) in
    let e = rw last at l.invariant.0 in record {
      answer = sym (ap answer_of e);
      table = end-done
          (a.cells * (a.slots * a.channels)) l.table a.table.now e l.invariant.5;
    }
