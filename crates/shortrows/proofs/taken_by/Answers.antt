-- `shortrows::taken_by` meets its contract. At each head of the loop the words of the cells below some k are joined, and `left` has the cells from k on.
-- It gets smaller with each turn. Assumes nothing.
use mathlib.Core.Path.{◌≡◌, sym, ap, ◌∙◌}
use mathlib.Core.Bool.{true, ◌&&◌}
use Prim.Native.Nat.{◌+◌, ◌≤◌, ◌<◌, zero-le}
use native.Mathlib.Omega.{arith}
use borrow.Author.Tests.{le-leb}
use lib.Count.{count_trailing_zeros, trailing_le}
use Rattle.laws.specs.Bits.{bit_at, word_of}
use Rattle.laws.proofs.Upward.{from_on, walk-done, walk_inside, walk_from, walk_here, walk-passed, walk-off, walk-less}
use Rattle.laws.proofs.Words.{bits-eq}
use Rattle.shortrows.specs.Short.{any_held}
use Rattle.shortrows.proofs.Row.{join-none, join-skip, join_more}
use Rattle.shortrows.proofs.taken_by.Goals as goal

pub loop-left-init : goal.loop-left-init
loop-left-init c = let a = c.args in (
  0,
  zero-le,
  join-none a.held.now a.near,
  bits-eq (from_on (bit_at a.near) 0) a.near a.i c.requires.1
      (λ b l. sym (ap (λ u. u && bit_at a.near b) (le-leb 0 b (omega arith)))),
)

pub overflow_cast-j : goal.overflow_cast-j
overflow_cast-j c = omega (arith, trailing_le 32 c.loop-left.left)

pub word_of-requires : goal.word_of-requires
word_of-requires c =
    let some : c.loop-left.left ≡ 0 → ⊥ = λ e. omega (arith, c.loop-left-test.true) in
    let small : c.args.i ≤ 32 = omega (arith, c.requires.0) in
    let inside : count_trailing_zeros 32 c.loop-left.left < c.args.i = walk_inside
    (bit_at (c.args.near)) c.args.i c.loop-left.invariant.0 c.loop-left.left c.loop-left.invariant.3 some small in
    omega (arith, inside, small)

pub overflow_sub-left : goal.overflow_sub-left
overflow_sub-left c = omega (arith, c.loop-left-test.true)

pub loop-left-smaller : goal.loop-left-smaller
loop-left-smaller c =
    let some : c.loop-left.left ≡ 0 → ⊥ = λ e. omega (arith, c.loop-left-test.true) in
    let small : c.args.i ≤ 32 = omega (arith, c.requires.0) in
    let l = c.loop-left in
    walk-less (bit_at (c.args.near)) c.args.i l.invariant.0 l.left l.invariant.3 some small

pub loop-left-preserved : goal.loop-left-preserved
loop-left-preserved c =
    let some : c.loop-left.left ≡ 0 → ⊥ = λ e. omega (arith, c.loop-left-test.true) in
    let small : c.args.i ≤ 32 = omega (arith, c.requires.0) in
    let inside : count_trailing_zeros 32 c.loop-left.left < c.args.i = walk_inside
    (bit_at (c.args.near)) c.args.i c.loop-left.invariant.0 c.loop-left.left c.loop-left.invariant.3 some small in
    let here : bit_at (c.args.near) (count_trailing_zeros 32 c.loop-left.left) ≡ true = walk_here
    (bit_at (c.args.near)) c.args.i c.loop-left.invariant.0 c.loop-left.left c.loop-left.invariant.3 some small in
    let come : c.loop-left.taken ≡ word_of (any_held c.args.held.now (c.args.near) (count_trailing_zeros 32 c.loop-left.left)) 64 = let a = c.args in
    let l = c.loop-left in
    join-skip a.held.now (c.args.near) l.invariant.0 (count_trailing_zeros 32 l.left)
    (walk_from (bit_at (c.args.near)) a.i l.invariant.0 l.left l.invariant.3 some small)
    (walk-passed (bit_at (c.args.near)) a.i l.invariant.0 l.left l.invariant.3 some small)
    l.invariant.2 in
    let l = c.loop-left in
    let a = c.args in (
      count_trailing_zeros 32 l.left + 1,
      omega (arith, inside),
      c.either-taken.ensures
          ∙ join_more a.held.now a.near (count_trailing_zeros 32 l.left) here come c.word_of.ensures,
      walk-off (bit_at a.near) a.i l.invariant.0 l.left l.invariant.3 some small,
    )

pub returns : goal.returns
returns c = let l = c.loop-left in
    let a = c.args in
    join-skip a.held.now a.near l.invariant.0 a.i l.invariant.1
    (walk-done (bit_at a.near) a.i l.invariant.0 l.left l.invariant.3 (omega (arith, c.loop-left-test.false)))
    l.invariant.2
