-- `chainwords::first_far` meets its contract: the search stands at a cell of the word, and what is left gives the answer. Assumes nothing.
use Prim.Native.Nat.{◌+◌}
use mathlib.Core.Bool.{false, ◌&&◌, and-false}
use mathlib.Core.Path.{◌≡◌, refl, ap, ◌∙◌}
use native.Mathlib.Omega.{arith}
use borrow.Author.Tests.{lt-ltb, le-ltb}
use Rattle.laws.specs.Bits.{bit_at}
use Rattle.laws.specs.Search.{first}
use Rattle.laws.proofs.Choice.{both_is}
use Rattle.laws.proofs.Search.{first-least, found, missed, ended}
use Rattle.chainwords.specs.Chain.{far_in}
use Rattle.chainwords.proofs.Laws.{next-member}
use Rattle.chainwords.proofs.first_far.Invariants.{open_at}
use Rattle.chainwords.proofs.first_far.Goals as goal

pub loop-a-init : goal.loop-a-init
unfolding far_in
loop-a-init c = let args = c.args in
    next-member (bit_at args.near) (open_at args.clash.now args.near args.i) _ 0 args.i _ (omega arith) c.lowest-a.ensures refl

pub returns-then-gap-i : goal.returns-then-gap-i
returns-then-gap-i c = let args = c.args in
    found (λ k. bit_at args.near k && open_at args.clash.now args.near args.i k) c.loop-a.a args.i c.loop-a.invariant.left (omega arith)
    (both_is _ _ (c.loop-a.invariant.member (omega arith)) (rw c.gap.ensures at (lt-ltb _ _ c.if-gap-i.true)))

pub loop-a-smaller : goal.loop-a-smaller
loop-a-smaller c = let args = c.args in
    omega (arith, c.lowest-a-in-loop-a.ensures, first-least (bit_at args.near) (c.loop-a.a + 1) args.i)

pub loop-a-preserved : goal.loop-a-preserved
loop-a-preserved c =
    let miss : let args = c.args in far_in args.clash.now args.near args.i ≡ first (λ k. bit_at args.near k && open_at args.clash.now args.near args.i k)
    (c.loop-a.a + 1) args.i = let args = c.args in
    let no : open_at args.clash.now args.near args.i c.loop-a.a ≡ false =
    rw c.gap.ensures at (le-ltb _ _ c.if-gap-i.false) in
    missed (λ k. bit_at args.near k && open_at args.clash.now args.near args.i k) c.loop-a.a args.i c.loop-a.invariant.left (omega arith)
    (ap (λ t. bit_at args.near c.loop-a.a && t) no ∙ and-false (bit_at args.near c.loop-a.a)) in
    let args = c.args in
    next-member (bit_at args.near) (open_at args.clash.now args.near args.i) _ (c.loop-a.a + 1) args.i _ (omega arith)
    c.lowest-a-in-loop-a.ensures miss

pub returns : goal.returns
returns c = let args = c.args in
    ended (λ k. bit_at args.near k && open_at args.clash.now args.near args.i k) c.loop-a.a args.i c.loop-a.invariant.left (omega arith)
