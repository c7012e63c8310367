-- `plantest::test_rows` meets its contract: before cell i, the table's rows of the cells below i are the run's, and each of them sends in the stretch that is
-- noted of it. Assumes nothing.
use mathlib.Core.Path.{◌≡◌, refl, sym, ap, ◌∙◌}
use mathlib.Core.Bool.{true}
use mathlib.Core.List.{List}
use Prim.Native.Nat.{ℕ, ◌+◌, ◌-◌, ◌*◌, ◌≤◌, ◌<◌}
use native.Mathlib.Omega.{arith}
use lib.ListN.{length, get_or, length-set}
use Rattle.laws.specs.Bits.{bit_in}
use Rattle.laws.specs.Part.{put}
use Rattle.laws.proofs.Grid.{row_before}
use Rattle.site.specs.Reach.{net_by}
use Rattle.planrows.specs.Row.{row_planned, opens}
use Rattle.planrows.proofs.Sent.{sends-in-is, sending-none, sending-more}
use Rattle.planner.proofs.Before.{planned-marked}
use Rattle.planner.proofs.Cells.{no-rows, more-planned, more-short}
use Rattle.rowapart.specs.Code.{bytes_alike}
use Rattle.rowapart.proofs.Runs.{short-not, row-not, row-yes, all_yes}
use Rattle.plantest.proofs.test_rows.Goals as goal

pub overflow_mul-n : goal.overflow_mul-n
overflow_mul-n c = omega (arith, c.requires.cells_nonzero.3)

pub loop-i-init : goal.loop-i-init
loop-i-init c = let a = c.args in
    let n = a.slots * a.channels in (
      omega arith,
      c.requires.row_len.0,
      c.requires.row_len.1,
      c.requires.row_len.2,
      no-rows (net_by a.cells n a.loads.now a.clash.now (opens a.mask.now)) a.table.now,
      sending-none n a.table.now a.starts.now a.ends.now,
    )

pub load_of-load-requires : goal.load_of-load-requires
load_of-load-requires c =
    let below : c.loop-i.i < c.args.cells = omega (arith, c.loop-i-test.true, c.requires.cells_nonzero.0) in
    let low : c.loop-i.i < 32 = omega (arith, below, c.requires.cells_nonzero.1) in
    low

pub make_row-made-requires : goal.make_row-made-requires
make_row-made-requires c =
    let below : c.loop-i.i < c.args.cells = omega (arith, c.loop-i-test.true, c.requires.cells_nonzero.0) in
    let inside : c.loop-i.i * (c.args.slots * c.args.channels) + (c.args.slots * c.args.channels) ≤ length (c.args.table.now) = omega
    (arith, row_before (c.args.slots * c.args.channels) below, c.requires.cells_nonzero.4) in
    let low : c.loop-i.i < 32 = omega (arith, below, c.requires.cells_nonzero.1) in
    let l = c.loop-i in record {
      i_bound = (low, c.requires.cells_nonzero.2, l.invariant.1, inside);
      rows_before = (
        l.invariant.5,
        (
          planned-marked (net_by c.args.cells (c.args.slots * c.args.channels) c.args.loads.now c.args.clash.now (opens c.args.mask.now)) l.i
              (c.args.table.now) l.invariant.4,
          c.requires.masks.1,
        ),
      );
      masks = c.requires.masks.0;
    }

pub shape_of-row-then-short-gt0 : goal.shape_of-row-then-short-gt0
shape_of-row-then-short-gt0 c =
    let made-long : length (c.make_row-made.new.row) ≡ (c.args.slots * c.args.channels) = omega (arith, c.make_row-made.auto.row, c.loop-i.invariant.1) in
    made-long ∙ sym c.requires.row_len.0

pub returns-then-short-gt0 : goal.returns-then-short-gt0
returns-then-short-gt0 c =
    let below : c.loop-i.i < c.args.cells = omega (arith, c.loop-i-test.true, c.requires.cells_nonzero.0) in
    let inside : c.loop-i.i * (c.args.slots * c.args.channels) + (c.args.slots * c.args.channels) ≤ length (c.args.table.now) = omega
    (arith, row_before (c.args.slots * c.args.channels) below, c.requires.cells_nonzero.4) in
    let own : (c.load_of-load.result) ≡ get_or c.args.loads.now (c.loop-i.i) 0 = c.load_of-load.ensures in
    let is : put ((c.loop-i.i) * (c.args.slots * c.args.channels)) (c.args.slots * c.args.channels) (c.make_row-made.new.row) (c.args.table.now) ≡ row_planned
    (c.args.slots * c.args.channels) (bit_in c.args.clash.now) (opens c.args.mask.now) (c.loop-i.i) (c.load_of-load.result) (c.args.table.now) = ap
    (λ (r : List ℕ). put ((c.loop-i.i) * (c.args.slots * c.args.channels)) (c.args.slots * c.args.channels) r
    (c.args.table.now)) c.make_row-made.ensures.row in
    let a = c.args in
    short-not (net_by c.args.cells (c.args.slots * c.args.channels) c.args.loads.now c.args.clash.now (opens c.args.mask.now)) (c.args.table.now)
    (more-short a.cells (c.args.slots * c.args.channels) a.loads.now (bit_in c.args.clash.now) (opens c.args.mask.now) (c.loop-i.i)
    (c.args.table.now) inside own is c.loop-i.invariant.4
    c.make_row-made.ensures.short (omega (arith, c.if-short-gt0.true)) a.cells below)

pub overflow_mul-from : goal.overflow_mul-from
overflow_mul-from c =
    let below : c.loop-i.i < c.args.cells = omega (arith, c.loop-i-test.true, c.requires.cells_nonzero.0) in
    let inside : c.loop-i.i * (c.args.slots * c.args.channels) + (c.args.slots * c.args.channels) ≤ length (c.args.table.now) = omega
    (arith, row_before (c.args.slots * c.args.channels) below, c.requires.cells_nonzero.4) in
    omega (arith, inside, c)

pub same-requires : goal.same-requires
same-requires c =
    let below : c.loop-i.i < c.args.cells = omega (arith, c.loop-i-test.true, c.requires.cells_nonzero.0) in
    let inside : c.loop-i.i * (c.args.slots * c.args.channels) + (c.args.slots * c.args.channels) ≤ length (c.args.table.now) = omega
    (arith, row_before (c.args.slots * c.args.channels) below, c.requires.cells_nonzero.4) in
    let made-long : length (c.make_row-made.new.row) ≡ (c.args.slots * c.args.channels) = omega (arith, c.make_row-made.auto.row, c.loop-i.invariant.1) in
    (inside, omega (arith, made-long))

pub shape_of-row-then-not-same : goal.shape_of-row-then-not-same
shape_of-row-then-not-same c =
    let made-long : length (c.make_row-made.new.row) ≡ (c.args.slots * c.args.channels) = omega (arith, c.make_row-made.auto.row, c.loop-i.invariant.1) in
    made-long ∙ sym c.requires.row_len.0

pub returns-then-not-same : goal.returns-then-not-same
returns-then-not-same c =
    let below : c.loop-i.i < c.args.cells = omega (arith, c.loop-i-test.true, c.requires.cells_nonzero.0) in
    let inside : c.loop-i.i * (c.args.slots * c.args.channels) + (c.args.slots * c.args.channels) ≤ length (c.args.table.now) = omega
    (arith, row_before (c.args.slots * c.args.channels) below, c.requires.cells_nonzero.4) in
    let own : (c.load_of-load.result) ≡ get_or c.args.loads.now (c.loop-i.i) 0 = c.load_of-load.ensures in
    let made-long : length (c.make_row-made.new.row) ≡ (c.args.slots * c.args.channels) = omega (arith, c.make_row-made.auto.row, c.loop-i.invariant.1) in
    let is : put ((c.loop-i.i) * (c.args.slots * c.args.channels)) (c.args.slots * c.args.channels) (c.make_row-made.new.row) (c.args.table.now) ≡ row_planned
    (c.args.slots * c.args.channels) (bit_in c.args.clash.now) (opens c.args.mask.now) (c.loop-i.i) (c.load_of-load.result) (c.args.table.now) = ap
    (λ (r : List ℕ). put ((c.loop-i.i) * (c.args.slots * c.args.channels)) (c.args.slots * c.args.channels) r
    (c.args.table.now)) c.make_row-made.ensures.row in
    let a = c.args in
    let none : c.make_row-made.result.left ≡ 0 = omega arith in
    row-not (c.args.slots * c.args.channels) (c.loop-i.i) (c.args.table.now) (c.make_row-made.new.row) made-long inside
    (net_by c.args.cells (c.args.slots * c.args.channels) c.args.loads.now c.args.clash.now (opens c.args.mask.now)) refl below
    (more-planned a.cells (c.args.slots * c.args.channels) a.loads.now (bit_in c.args.clash.now) (opens c.args.mask.now) (c.loop-i.i)
    (c.args.table.now) inside own is
    c.loop-i.invariant.4 c.make_row-made.ensures.short none)
    (sym (c.if-not-same.true) ∙ c.same.ensures)

pub overflow_cast-starts : goal.overflow_cast-starts
overflow_cast-starts c =
    let short-places : (c.make_row-made.result.from ≤ 2048) × (c.make_row-made.result.to ≤ 2048) = let s = c.make_row-made.ensures.stretch in
    let few : (c.args.slots * c.args.channels) ≤ 2048 = c.requires.cells_nonzero.3 in
    (omega (arith, s.0, s.1, few), omega (arith, s.1, few)) in
    omega (arith, short-places.0)

pub overflow_cast-ends : goal.overflow_cast-ends
overflow_cast-ends c =
    let short-places : (c.make_row-made.result.from ≤ 2048) × (c.make_row-made.result.to ≤ 2048) = let s = c.make_row-made.ensures.stretch in
    let few : (c.args.slots * c.args.channels) ≤ 2048 = c.requires.cells_nonzero.3 in
    (omega (arith, s.0, s.1, few), omega (arith, s.1, few)) in
    omega (arith, short-places.1)

pub loop-i-preserved : goal.loop-i-preserved
loop-i-preserved c =
    let below : c.loop-i.i < c.args.cells = omega (arith, c.loop-i-test.true, c.requires.cells_nonzero.0) in
    let inside : c.loop-i.i * (c.args.slots * c.args.channels) + (c.args.slots * c.args.channels) ≤ length (c.args.table.now) = omega
    (arith, row_before (c.args.slots * c.args.channels) below, c.requires.cells_nonzero.4) in
    let low : c.loop-i.i < 32 = omega (arith, below, c.requires.cells_nonzero.1) in
    let own : (c.load_of-load.result) ≡ get_or c.args.loads.now (c.loop-i.i) 0 = c.load_of-load.ensures in
    let made-long : length (c.make_row-made.new.row) ≡ (c.args.slots * c.args.channels) = omega (arith, c.make_row-made.auto.row, c.loop-i.invariant.1) in
    let is : put ((c.loop-i.i) * (c.args.slots * c.args.channels)) (c.args.slots * c.args.channels) (c.make_row-made.new.row) (c.args.table.now) ≡ row_planned
    (c.args.slots * c.args.channels) (bit_in c.args.clash.now) (opens c.args.mask.now) (c.loop-i.i) (c.load_of-load.result) (c.args.table.now) = ap
    (λ (r : List ℕ). put ((c.loop-i.i) * (c.args.slots * c.args.channels)) (c.args.slots * c.args.channels) r
    (c.args.table.now)) c.make_row-made.ensures.row in
    let a = c.args in
    let l = c.loop-i in
    let none : c.make_row-made.result.left ≡ 0 = omega arith in
    let alike : true ≡ bytes_alike (c.args.table.now) ((c.loop-i.i) * (c.args.slots * c.args.channels)) (c.make_row-made.new.row)
    (c.args.slots * c.args.channels)
    = sym (c.if-not-same.false) ∙ c.same.ensures in
    let back = row-yes (c.args.slots * c.args.channels) (c.loop-i.i) (c.args.table.now) (c.make_row-made.new.row) made-long inside alike in
    let stands = sym back ∙ is in (
      omega (arith, below),
      made-long,
      simp length-set l.invariant.2,
      simp length-set l.invariant.3,
      more-planned a.cells (c.args.slots * c.args.channels) a.loads.now (bit_in c.args.clash.now) (opens c.args.mask.now) (c.loop-i.i)
          (c.args.table.now) inside own stands l.invariant.4
          c.make_row-made.ensures.short none,
      sending-more (c.args.slots * c.args.channels) (bit_in c.args.clash.now) (c.loop-i.i) (c.args.table.now) inside (opens c.args.mask.now)
          (c.load_of-load.result) stands l.starts l.ends
          (omega (arith, low, l.invariant.2)) (omega (arith, low, l.invariant.3)) l.invariant.5 _ _
          (sends-in-is (c.args.slots * c.args.channels) (c.loop-i.i) (sym back) refl refl c.make_row-made.ensures.stretch),
    )

pub shape_of-row : goal.shape_of-row
shape_of-row c = c.loop-i.invariant.1 ∙ sym c.requires.row_len.0

pub returns : goal.returns
returns c = let a = c.args in
    let last : c.loop-i.i ≡ a.cells = omega (arith, c.loop-i-test.false, c.loop-i.invariant.0) in
    all_yes (net_by a.cells (a.slots * a.channels) a.loads.now a.clash.now (opens a.mask.now)) a.table.now
    (rw last at c.loop-i.invariant.4)
