-- `planner::plan_short` meets its contract. At each head of the loop the run of the first i cells has given the first i rows of the table, the bytes past the
-- site's are as they were, and the room has the word of each of these rows (`WordsHeld`). Assumes nothing.
use mathlib.Core.Path.{◌≡◌, refl, sym, ap, ◌∙◌}
use Prim.Native.Nat.{◌+◌, ◌*◌, ◌≤◌, ◌<◌}
use native.Mathlib.Omega.{arith}
use lib.ListN.{length, get_or, drop, length-set}
use lib.Seq.{length-take-le, length_front}
use Rattle.laws.specs.Bits.{bit_at, bit_in}
use Rattle.laws.proofs.Grid.{row_before}
use Rattle.planner.specs.Plan.{answer_of}
use Rattle.shortrows.proofs.Row.{words-none, words_more}
use Rattle.planner.proofs.Cells.{no-rows, more-long, more-drop, more-planned, more-short, end-done, end_short}
use Rattle.site.specs.Reach.{net_in}
use Rattle.planner.proofs.plan_short.Goals as goal

pub loop-i-init : goal.loop-i-init
loop-i-init c = let net = net_in c.args.cells (c.args.slots * c.args.channels) c.args.loads.now (bit_in c.args.clash.now) (bit_at c.args.usable) in (
  omega arith,
  refl,
  no-rows net c.args.table.now,
  refl,
  c.requires.cells_bound.2,
  words-none (c.args.slots * c.args.channels) c.args.table.now c.args.held.now,
)

pub load_of-load-requires : goal.load_of-load-requires
load_of-load-requires c = omega (arith, c.loop-i-test.true, c.requires.cells_bound.0)

pub plan_short_row-lacks-requires : goal.plan_short_row-lacks-requires
plan_short_row-lacks-requires c =
    let room : (c.args.cells * (c.args.slots * c.args.channels)) ≤ length c.args.table.now = c.requires.channels_in_bounds.0 in
    let inside : c.loop-i.i * (c.args.slots * c.args.channels) + (c.args.slots * c.args.channels) ≤
    (c.args.cells * (c.args.slots * c.args.channels)) = row_before (c.args.slots * c.args.channels) c.loop-i-test.true in
    let fits : c.loop-i.i * (c.args.slots * c.args.channels) + (c.args.slots * c.args.channels) ≤ length c.loop-i.table = omega
    (arith, inside, room, c.loop-i.invariant.1) in
    let p = c.loop-i in
    let asked = c.requires.cells_bound in
    let low : p.i < 32 = omega (arith, c.loop-i-test.true, asked.0) in record {
      i_bound = (low, asked.1, fits, p.invariant.4, asked.3);
      words_held =
          (p.invariant.5, c.requires.channels_in_bounds.1);
    }

pub overflow_mul-end : goal.overflow_mul-end
overflow_mul-end c =
    let room : (c.args.cells * (c.args.slots * c.args.channels)) ≤ length c.args.table.now = c.requires.channels_in_bounds.0 in
    let inside : c.loop-i.i * (c.args.slots * c.args.channels) + (c.args.slots * c.args.channels) ≤
    (c.args.cells * (c.args.slots * c.args.channels)) = row_before (c.args.slots * c.args.channels) c.loop-i-test.true in
    omega (arith, inside, room, c)

pub overflow_mul-end-then-lacks-gt0 : goal.overflow_mul-end-then-lacks-gt0
overflow_mul-end-then-lacks-gt0 c =
    let room : (c.args.cells * (c.args.slots * c.args.channels)) ≤ length c.args.table.now = c.requires.channels_in_bounds.0 in
    let inside : c.loop-i.i * (c.args.slots * c.args.channels) + (c.args.slots * c.args.channels) ≤
    (c.args.cells * (c.args.slots * c.args.channels)) = row_before (c.args.slots * c.args.channels) c.loop-i-test.true in
    omega (arith, inside, room, c)

pub slice_bounds-clear-end : goal.slice_bounds-clear-end
slice_bounds-clear-end c =
    let room : (c.args.cells * (c.args.slots * c.args.channels)) ≤ length c.args.table.now = c.requires.channels_in_bounds.0 in
    let inside : c.loop-i.i * (c.args.slots * c.args.channels) + (c.args.slots * c.args.channels) ≤
    (c.args.cells * (c.args.slots * c.args.channels)) = row_before (c.args.slots * c.args.channels) c.loop-i-test.true in
    let fits : c.loop-i.i * (c.args.slots * c.args.channels) + (c.args.slots * c.args.channels) ≤ length c.loop-i.table = omega
    (arith, inside, room, c.loop-i.invariant.1) in
    let own : c.load_of-load.result ≡ get_or (c.args.loads.now) c.loop-i.i 0 = c.load_of-load.ensures in
    let long : length c.plan_short_row-lacks.new.table ≡ length c.loop-i.table = more-long c.args.cells (c.args.slots * c.args.channels) (c.args.loads.now)
    (bit_in c.args.clash.now) (bit_at c.args.usable) c.loop-i.i c.loop-i.table fits own
    c.plan_short_row-lacks.ensures.row in
    let holds : (c.args.cells * (c.args.slots * c.args.channels)) ≤ length c.plan_short_row-lacks.new.table = omega (arith, long, c.loop-i.invariant.1, room) in
    omega (arith, inside, holds)

pub slice_bounds-clear-end-then-lacks-gt0 : goal.slice_bounds-clear-end-then-lacks-gt0
slice_bounds-clear-end-then-lacks-gt0 c =
    let room : (c.args.cells * (c.args.slots * c.args.channels)) ≤ length c.args.table.now = c.requires.channels_in_bounds.0 in
    let inside : c.loop-i.i * (c.args.slots * c.args.channels) + (c.args.slots * c.args.channels) ≤
    (c.args.cells * (c.args.slots * c.args.channels)) = row_before (c.args.slots * c.args.channels) c.loop-i-test.true in
    let fits : c.loop-i.i * (c.args.slots * c.args.channels) + (c.args.slots * c.args.channels) ≤ length c.loop-i.table = omega
    (arith, inside, room, c.loop-i.invariant.1) in
    let own : c.load_of-load.result ≡ get_or (c.args.loads.now) c.loop-i.i 0 = c.load_of-load.ensures in
    let long : length c.plan_short_row-lacks.new.table ≡ length c.loop-i.table = more-long c.args.cells (c.args.slots * c.args.channels) (c.args.loads.now)
    (bit_in c.args.clash.now) (bit_at c.args.usable) c.loop-i.i c.loop-i.table fits own
    c.plan_short_row-lacks.ensures.row in
    let holds : (c.args.cells * (c.args.slots * c.args.channels)) ≤ length c.plan_short_row-lacks.new.table = omega (arith, long, c.loop-i.invariant.1, room) in
    sym (length-take-le _ c.plan_short_row-lacks.new.table (omega (arith, inside, holds)))

pub overflow_add-cell : goal.overflow_add-cell
overflow_add-cell c = omega arith

pub shape_of-table-then-lacks-gt0 : goal.shape_of-table-then-lacks-gt0
shape_of-table-then-lacks-gt0 c =
    let room : (c.args.cells * (c.args.slots * c.args.channels)) ≤ length c.args.table.now = c.requires.channels_in_bounds.0 in
    let inside : c.loop-i.i * (c.args.slots * c.args.channels) + (c.args.slots * c.args.channels) ≤
    (c.args.cells * (c.args.slots * c.args.channels)) = row_before (c.args.slots * c.args.channels) c.loop-i-test.true in
    let fits : c.loop-i.i * (c.args.slots * c.args.channels) + (c.args.slots * c.args.channels) ≤ length c.loop-i.table = omega
    (arith, inside, room, c.loop-i.invariant.1) in
    let own : c.load_of-load.result ≡ get_or (c.args.loads.now) c.loop-i.i 0 = c.load_of-load.ensures in
    let long : length c.plan_short_row-lacks.new.table ≡ length c.loop-i.table = more-long c.args.cells (c.args.slots * c.args.channels) (c.args.loads.now)
    (bit_in c.args.clash.now) (bit_at c.args.usable) c.loop-i.i c.loop-i.table fits own
    c.plan_short_row-lacks.ensures.row in
    let lent = c.clear.auto.bytes in
    rw length_front (long ∙ c.loop-i.invariant.1)

pub returns-then-lacks-gt0 : goal.returns-then-lacks-gt0
returns-then-lacks-gt0 c =
    let room : (c.args.cells * (c.args.slots * c.args.channels)) ≤ length c.args.table.now = c.requires.channels_in_bounds.0 in
    let inside : c.loop-i.i * (c.args.slots * c.args.channels) + (c.args.slots * c.args.channels) ≤
    (c.args.cells * (c.args.slots * c.args.channels)) = row_before (c.args.slots * c.args.channels) c.loop-i-test.true in
    let fits : c.loop-i.i * (c.args.slots * c.args.channels) + (c.args.slots * c.args.channels) ≤ length c.loop-i.table = omega
    (arith, inside, room, c.loop-i.invariant.1) in
    let own : c.load_of-load.result ≡ get_or (c.args.loads.now) c.loop-i.i 0 = c.load_of-load.ensures in
    let long : length c.plan_short_row-lacks.new.table ≡ length c.loop-i.table = more-long c.args.cells (c.args.slots * c.args.channels) (c.args.loads.now)
    (bit_in c.args.clash.now) (bit_at c.args.usable) c.loop-i.i c.loop-i.table fits own
    c.plan_short_row-lacks.ensures.row in
    let holds : (c.args.cells * (c.args.slots * c.args.channels)) ≤ length c.plan_short_row-lacks.new.table = omega (arith, long, c.loop-i.invariant.1, room) in
    let past : drop (c.args.cells * (c.args.slots * c.args.channels)) c.plan_short_row-lacks.new.table ≡ drop
    (c.args.cells * (c.args.slots * c.args.channels)) c.args.table.now = more-drop c.args.cells (c.args.slots * c.args.channels) (c.args.loads.now)
    (bit_in c.args.clash.now) (bit_at c.args.usable) c.loop-i.i c.loop-i.table fits own
    c.plan_short_row-lacks.ensures.row (c.args.cells * (c.args.slots * c.args.channels)) inside
    ∙ c.loop-i.invariant.3 in
    let e = more-short c.args.cells (c.args.slots * c.args.channels) (c.args.loads.now) (bit_in c.args.clash.now)
    (bit_at c.args.usable) c.loop-i.i c.loop-i.table fits
    own c.plan_short_row-lacks.ensures.row c.loop-i.invariant.2 c.plan_short_row-lacks.ensures.short (omega (arith, c.if-lacks-gt0.true))
    c.args.cells c.loop-i-test.true in record {
      answer = sym (ap answer_of e);
      table = end_short (c.args.cells * (c.args.slots * c.args.channels)) c.clear.new.bytes c.plan_short_row-lacks.new.table c.args.table.now e holds
          c.clear.ensures past;
    }

pub overflow_step-i : goal.overflow_step-i
overflow_step-i c = omega arith

pub loop-i-smaller : goal.loop-i-smaller
loop-i-smaller c = omega arith

pub loop-i-preserved : goal.loop-i-preserved
loop-i-preserved c =
    let room : (c.args.cells * (c.args.slots * c.args.channels)) ≤ length c.args.table.now = c.requires.channels_in_bounds.0 in
    let inside : c.loop-i.i * (c.args.slots * c.args.channels) + (c.args.slots * c.args.channels) ≤
    (c.args.cells * (c.args.slots * c.args.channels)) = row_before (c.args.slots * c.args.channels) c.loop-i-test.true in
    let fits : c.loop-i.i * (c.args.slots * c.args.channels) + (c.args.slots * c.args.channels) ≤ length c.loop-i.table = omega
    (arith, inside, room, c.loop-i.invariant.1) in
    let own : c.load_of-load.result ≡ get_or (c.args.loads.now) c.loop-i.i 0 = c.load_of-load.ensures in
    let long : length c.plan_short_row-lacks.new.table ≡ length c.loop-i.table = more-long c.args.cells (c.args.slots * c.args.channels) (c.args.loads.now)
    (bit_in c.args.clash.now) (bit_at c.args.usable) c.loop-i.i c.loop-i.table fits own
    c.plan_short_row-lacks.ensures.row in
    let past : drop (c.args.cells * (c.args.slots * c.args.channels)) c.plan_short_row-lacks.new.table ≡ drop
    (c.args.cells * (c.args.slots * c.args.channels)) c.args.table.now = more-drop c.args.cells (c.args.slots * c.args.channels) (c.args.loads.now)
    (bit_in c.args.clash.now) (bit_at c.args.usable) c.loop-i.i c.loop-i.table fits own
    c.plan_short_row-lacks.ensures.row (c.args.cells * (c.args.slots * c.args.channels)) inside
    ∙ c.loop-i.invariant.3 in
    let p = c.loop-i in
    let none : c.plan_short_row-lacks.result ≡ 0 = omega arith in (
      omega arith,
      long ∙ p.invariant.1,
      more-planned c.args.cells (c.args.slots * c.args.channels) (c.args.loads.now) (bit_in c.args.clash.now) (bit_at c.args.usable) p.i p.table fits
          own c.plan_short_row-lacks.ensures.row p.invariant.2 c.plan_short_row-lacks.ensures.short none,
      past,
      ap length c.plan_short_row-lacks.ensures.held ∙ length-set p.held p.i _ ∙ p.invariant.4,
      words_more (c.args.slots * c.args.channels) (bit_in c.args.clash.now) (bit_at c.args.usable) p.i _ p.table p.held fits
          (omega (arith, c.loop-i-test.true, c.requires.cells_bound.0, p.invariant.4)) p.invariant.5 c.plan_short_row-lacks.ensures.row
          c.plan_short_row-lacks.ensures.held,
    )

pub shape_of-table : goal.shape_of-table
shape_of-table c = c.loop-i.invariant.1

pub returns : goal.returns
returns c = let args = c.args in
    let last : c.loop-i.i ≡ args.cells = omega arith in
    let e = rw last at c.loop-i.invariant.2 in record {
      answer = sym (ap answer_of e);
      table = end-done
          (args.cells * (args.slots * args.channels)) c.loop-i.table args.table.now e c.loop-i.invariant.3;
    }
