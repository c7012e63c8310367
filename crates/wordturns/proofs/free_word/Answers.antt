-- `wordturns::free_word` meets its contract: before cell a, the words of the clashing cells below it are taken away. Assumes nothing.
use mathlib.Core.Path.{◌≡◌, refl, ◌∙◌}
use Prim.Native.Nat.{◌^◌, ◌<◌}
use native.Mathlib.Omega.{arith}
use Rattle.wordturns.proofs.Turn.{all-free, one_free}
use borrow.Author.Rules.{rules}
use Rattle.wordturns.proofs.free_word.Goals as goal

pub loop-a-init : goal.loop-a-init
loop-a-init c =
    let small : c.args.vacant < 2 ^ 64 = search rules in
    let a = c.args in (omega arith, all-free a.vacant a.row a.stands.now small)

pub loop-a-preserved : goal.loop-a-preserved
loop-a-preserved c = let l = c.loop-a in
    let a = c.args in
    (omega arith, c.without-free.ensures ∙ one_free a.vacant a.row a.stands.now l.a l.invariant.1 refl c.counted.ensures)

pub returns : goal.returns
returns c = let l = c.loop-a in
    let e : l.a ≡ c.args.i = omega arith in
    rw e at l.invariant.1
