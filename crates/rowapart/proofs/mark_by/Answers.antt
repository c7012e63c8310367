-- `rowapart::mark_by` meets its contract. At each head of the loop the row is the one handed in, as the cells below some k leave it, and `left` has the cells
-- from k on. It gets smaller with each turn. Assumes nothing.
use mathlib.Core.Path.{◌≡◌, refl, sym, ap, ◌∙◌}
use mathlib.Core.Bool.{true, ◌&&◌}
use Prim.Native.Nat.{◌+◌, ◌*◌, ◌≤◌, ◌<◌, zero-le}
use native.Mathlib.Omega.{arith}
use borrow.Author.Tests.{le-leb}
use lib.Count.{count_trailing_zeros, trailing_le}
use lib.ListN.{length}
use Rattle.laws.specs.Bits.{bit_at}
use Rattle.laws.specs.Part.{part}
use Rattle.laws.proofs.Grid.{row_before}
use Rattle.laws.proofs.Upward.{from_on, walk-done, walk_inside, walk_from, walk_here, walk-passed, walk-off, walk-less}
use Rattle.laws.proofs.Words.{bits-eq}
use Rattle.theory.specs.Greedy.{forbid}
use Rattle.planrows.specs.Row.{marks_on, by_word}
use Rattle.planrows.proofs.Marked.{on-length}
use Rattle.planrows.proofs.Sent.{sends-in-is}
use Rattle.rowapart.proofs.Apart.{apart_none, apart-skip, apart-yes}
use Rattle.rowapart.proofs.mark_by.Goals as goal

pub loop-left-init : goal.loop-left-init
loop-left-init c = let a = c.args in (
  0,
  zero-le,
  c.requires.i_bound.1,
  apart_none a.n a.i (by_word a.cells) a.table.now a.row.now,
  bits-eq (from_on (bit_at a.cells) 0) a.cells a.i c.requires.i_bound.3
      (λ b l. sym (ap (λ u. u && bit_at a.cells b) (le-leb 0 b (omega arith)))),
)

pub overflow_cast-j : goal.overflow_cast-j
overflow_cast-j c = omega (arith, trailing_le 32 c.loop-left.left)

pub place_of-start-requires : goal.place_of-start-requires
place_of-start-requires c =
    let some : c.loop-left.left ≡ 0 → ⊥ = λ e. omega (arith, c.loop-left-test.true) in
    let small : c.args.i ≤ 32 = omega (arith, c.requires.i_bound.0) in
    let inside : count_trailing_zeros 32 c.loop-left.left < c.args.i = walk_inside
    (bit_at (c.args.cells)) c.args.i c.loop-left.invariant.0 c.loop-left.left c.loop-left.invariant.4 some small in
    omega (arith, inside, small)

pub place_of-end-requires : goal.place_of-end-requires
place_of-end-requires c =
    let some : c.loop-left.left ≡ 0 → ⊥ = λ e. omega (arith, c.loop-left-test.true) in
    let small : c.args.i ≤ 32 = omega (arith, c.requires.i_bound.0) in
    let inside : count_trailing_zeros 32 c.loop-left.left < c.args.i = walk_inside
    (bit_at (c.args.cells)) c.args.i c.loop-left.invariant.0 c.loop-left.left c.loop-left.invariant.4 some small in
    omega (arith, inside, small)

pub forbid_by-requires : goal.forbid_by-requires
forbid_by-requires c =
    let some : c.loop-left.left ≡ 0 → ⊥ = λ e. omega (arith, c.loop-left-test.true) in
    let small : c.args.i ≤ 32 = omega (arith, c.requires.i_bound.0) in
    let inside : count_trailing_zeros 32 c.loop-left.left < c.args.i = walk_inside
    (bit_at (c.args.cells)) c.args.i c.loop-left.invariant.0 c.loop-left.left c.loop-left.invariant.4 some small in
    let l = c.loop-left in
    let a = c.args in
    let j = count_trailing_zeros 32 l.left in record {
      row_len = (l.invariant.2, omega (arith, row_before a.n inside, c.requires.i_bound.2));
      sends_in = sends-in-is a.n j {t = a.table.now} {u = a.table.now} refl c.place_of-start.ensures c.place_of-end.ensures
          (c.requires.sending j inside);
    }

pub overflow_sub-left : goal.overflow_sub-left
overflow_sub-left c = omega (arith, c.loop-left-test.true)

pub loop-left-smaller : goal.loop-left-smaller
loop-left-smaller c =
    let some : c.loop-left.left ≡ 0 → ⊥ = λ e. omega (arith, c.loop-left-test.true) in
    let small : c.args.i ≤ 32 = omega (arith, c.requires.i_bound.0) in
    let l = c.loop-left in
    walk-less (bit_at (c.args.cells)) c.args.i l.invariant.0 l.left l.invariant.4 some small

pub loop-left-preserved : goal.loop-left-preserved
loop-left-preserved c =
    let some : c.loop-left.left ≡ 0 → ⊥ = λ e. omega (arith, c.loop-left-test.true) in
    let small : c.args.i ≤ 32 = omega (arith, c.requires.i_bound.0) in
    let inside : count_trailing_zeros 32 c.loop-left.left < c.args.i = walk_inside
    (bit_at (c.args.cells)) c.args.i c.loop-left.invariant.0 c.loop-left.left c.loop-left.invariant.4 some small in
    let here : bit_at (c.args.cells) (count_trailing_zeros 32 c.loop-left.left) ≡ true = walk_here
    (bit_at (c.args.cells)) c.args.i c.loop-left.invariant.0 c.loop-left.left c.loop-left.invariant.4 some small in
    let come : c.loop-left.row ≡ marks_on c.args.n (by_word (c.args.cells)) c.args.table.now c.args.i c.args.row.now
    (count_trailing_zeros 32 c.loop-left.left) = let a = c.args in
    let l = c.loop-left in
    l.invariant.3
    ∙ apart-skip a.n a.i a.table.now a.row.now c.requires.i_bound.1 c.requires.i_bound.2 (by_word (c.args.cells)) l.invariant.0 (count_trailing_zeros 32 l.left)
    (walk_from (bit_at (c.args.cells)) a.i l.invariant.0 l.left l.invariant.4 some small)
    (omega (arith, inside))
    (walk-passed (bit_at (c.args.cells)) a.i l.invariant.0 l.left l.invariant.4 some small) in
    let l = c.loop-left in
    let a = c.args in
    let j = count_trailing_zeros 32 l.left in
    let turned = c.forbid_by.ensures
    ∙ ap (forbid (part (j * a.n) a.n a.table.now)) come
    ∙ sym (apart-yes a.n a.i (by_word a.cells) a.table.now a.row.now j here) in (
      j + 1,
      omega (arith, inside),
      ap length turned ∙ on-length a.n (by_word a.cells) a.table.now a.i a.row.now (j + 1) ∙ c.requires.i_bound.1,
      turned,
      walk-off (bit_at a.cells) a.i l.invariant.0 l.left l.invariant.4 some small,
    )

pub shape_of-row : goal.shape_of-row
shape_of-row c = c.loop-left.invariant.2 ∙ sym c.requires.i_bound.1

pub returns : goal.returns
returns c = let l = c.loop-left in
    let a = c.args in
    l.invariant.3
    ∙ apart-skip a.n a.i a.table.now a.row.now c.requires.i_bound.1 c.requires.i_bound.2 (by_word a.cells) l.invariant.0 a.i l.invariant.1
    (omega arith)
    (walk-done (bit_at a.cells) a.i l.invariant.0 l.left l.invariant.4 (omega (arith, c.loop-left-test.false)))
