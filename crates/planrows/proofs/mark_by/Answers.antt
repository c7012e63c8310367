-- `planrows::mark_by` meets its contract. At each head of the loop the table is the one handed in, with row i as the cells below some k leave it (`marks`),
-- and `left` has the cells from k on. It gets smaller with each turn. Assumes nothing.
use mathlib.Core.Path.{◌≡◌, refl, sym, ap, ◌∙◌}
use mathlib.Core.Bool.{true, ◌&&◌}
use Prim.Native.Nat.{◌+◌, ◌*◌, ◌≤◌, ◌<◌, zero-le}
use native.Mathlib.Omega.{arith}
use borrow.Author.Tests.{le-leb}
use lib.Count.{count_trailing_zeros, trailing_le}
use lib.ListN.{length}
use Rattle.laws.specs.Bits.{bit_at}
use Rattle.laws.specs.Part.{part}
use Rattle.laws.proofs.Upward.{from_on, walk-done, walk_inside, walk_from, walk_here, walk-passed, walk-off, walk-less}
use Rattle.laws.proofs.Words.{bits-eq}
use Rattle.planrows.specs.Row.{marks_on, by_word}
use Rattle.planrows.proofs.Marked.{marks, marks-long, marks-none, marks-skip, marks-yes, here-long}
use Rattle.planrows.proofs.Sent.{sends-in-is, sending-put}
use Rattle.planrows.proofs.mark_by.Goals as goal

pub loop-left-init : goal.loop-left-init
loop-left-init c = let a = c.args in (
  0,
  zero-le,
  refl,
  marks-none a.n (by_word a.cells) a.i a.table.now c.requires.i_bound.1,
  bits-eq (from_on (bit_at a.cells) 0) a.cells a.i c.requires.i_bound.2
      (λ b l. sym (ap (λ u. u && bit_at a.cells b) (le-leb 0 b (omega arith)))),
)

pub overflow_cast-j : goal.overflow_cast-j
overflow_cast-j c = omega (arith, trailing_le 32 c.loop-left.left)

pub place_of-start-requires : goal.place_of-start-requires
place_of-start-requires c =
    let some : c.loop-left.left ≡ 0 → ⊥ = λ e. omega (arith, c.loop-left-test.true) in
    let small : c.args.i ≤ 32 = omega (arith, c.requires.i_bound.0) in
    let inside : count_trailing_zeros 32 c.loop-left.left < c.args.i = walk_inside
    (bit_at (c.args.cells)) c.args.i c.loop-left.invariant.0 c.loop-left.left c.loop-left.invariant.4 some small in
    omega (arith, inside, small)

pub place_of-end-requires : goal.place_of-end-requires
place_of-end-requires c =
    let some : c.loop-left.left ≡ 0 → ⊥ = λ e. omega (arith, c.loop-left-test.true) in
    let small : c.args.i ≤ 32 = omega (arith, c.requires.i_bound.0) in
    let inside : count_trailing_zeros 32 c.loop-left.left < c.args.i = walk_inside
    (bit_at (c.args.cells)) c.args.i c.loop-left.invariant.0 c.loop-left.left c.loop-left.invariant.4 some small in
    omega (arith, inside, small)

pub forbid_row-requires : goal.forbid_row-requires
forbid_row-requires c =
    let some : c.loop-left.left ≡ 0 → ⊥ = λ e. omega (arith, c.loop-left-test.true) in
    let small : c.args.i ≤ 32 = omega (arith, c.requires.i_bound.0) in
    let inside : count_trailing_zeros 32 c.loop-left.left < c.args.i = walk_inside
    (bit_at (c.args.cells)) c.args.i c.loop-left.invariant.0 c.loop-left.left c.loop-left.invariant.4 some small in
    let l = c.loop-left in
    let a = c.args in
    let sent = sending-put a.n a.i (marks_on a.n (by_word a.cells) a.table.now a.i (part (a.i * a.n) a.n a.table.now) l.invariant.0)
    a.table.now (here-long a.n (by_word a.cells) a.i a.table.now c.requires.i_bound.1 l.invariant.0) c.requires.i_bound.1 a.starts.now a.ends.now
    c.requires.sending (count_trailing_zeros 32 l.left) inside in record {
      j_lt_i = (inside, omega (arith, l.invariant.2, c.requires.i_bound.1));
      sends_in = sends-in-is a.n (count_trailing_zeros 32 l.left) l.invariant.3 c.place_of-start.ensures c.place_of-end.ensures sent;
    }

pub overflow_sub-left : goal.overflow_sub-left
overflow_sub-left c = omega (arith, c.loop-left-test.true)

pub loop-left-smaller : goal.loop-left-smaller
loop-left-smaller c =
    let some : c.loop-left.left ≡ 0 → ⊥ = λ e. omega (arith, c.loop-left-test.true) in
    let small : c.args.i ≤ 32 = omega (arith, c.requires.i_bound.0) in
    let l = c.loop-left in
    walk-less (bit_at (c.args.cells)) c.args.i l.invariant.0 l.left l.invariant.4 some small

pub loop-left-preserved : goal.loop-left-preserved
loop-left-preserved c =
    let some : c.loop-left.left ≡ 0 → ⊥ = λ e. omega (arith, c.loop-left-test.true) in
    let small : c.args.i ≤ 32 = omega (arith, c.requires.i_bound.0) in
    let inside : count_trailing_zeros 32 c.loop-left.left < c.args.i = walk_inside
    (bit_at (c.args.cells)) c.args.i c.loop-left.invariant.0 c.loop-left.left c.loop-left.invariant.4 some small in
    let here : bit_at (c.args.cells) (count_trailing_zeros 32 c.loop-left.left) ≡ true = walk_here
    (bit_at (c.args.cells)) c.args.i c.loop-left.invariant.0 c.loop-left.left c.loop-left.invariant.4 some small in
    let come : c.loop-left.table ≡ marks c.args.n (by_word (c.args.cells)) c.args.i
    (count_trailing_zeros 32 c.loop-left.left) c.args.table.now = let a = c.args in
    let l = c.loop-left in
    marks-skip a.n (by_word (c.args.cells)) a.i a.table.now c.requires.i_bound.1 l.invariant.0 (count_trailing_zeros 32 l.left)
    (walk_from (bit_at (c.args.cells)) a.i l.invariant.0 l.left l.invariant.4 some small)
    (walk-passed (bit_at (c.args.cells)) a.i l.invariant.0 l.left l.invariant.4 some small)
    l.invariant.3 in
    let l = c.loop-left in
    let a = c.args in
    let turned = marks-yes a.n (by_word a.cells) a.i a.table.now c.requires.i_bound.1 (count_trailing_zeros 32 l.left) come inside
    (sym here) c.forbid_row.ensures in (
      count_trailing_zeros 32 l.left + 1,
      omega (arith, inside),
      ap length turned ∙ marks-long a.n (by_word a.cells) a.i a.table.now c.requires.i_bound.1 (count_trailing_zeros 32 l.left + 1),
      turned,
      walk-off (bit_at a.cells) a.i l.invariant.0 l.left l.invariant.4 some small,
    )

pub shape_of-table : goal.shape_of-table
shape_of-table c = c.loop-left.invariant.2

pub returns : goal.returns
returns c = let l = c.loop-left in
    let a = c.args in
    marks-skip a.n (by_word a.cells) a.i a.table.now c.requires.i_bound.1 l.invariant.0 a.i l.invariant.1
    (walk-done (bit_at a.cells) a.i l.invariant.0 l.left l.invariant.4 (omega (arith, c.loop-left-test.false)))
    l.invariant.3
