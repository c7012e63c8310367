-- `whytext::thirds_len` meets its contract: before first cell a, the lines of the cells below it are counted. Assumes nothing.
use Prim.Native.Nat.{ℕ}
use mathlib.Core.Path.{◌≡◌, refl, ap, ◌∙◌}
use native.Mathlib.Omega.{arith}
use lib.ListN.{length, length-append}
use Rattle.say_rule.specs.Said.{firsts_said, thirds_said}
use Rattle.calltext.proofs.Kept.{put-end}
use Rattle.whytext.proofs.Firsts.{first_more}
use Rattle.whytext.proofs.thirds_len.Goals as goal

pub loop-a-init : goal.loop-a-init
unfolding firsts_said
loop-a-init c = (refl, omega arith)

pub put_thirds-n-requires : goal.put_thirds-n-requires
put_thirds-n-requires c = (omega arith, omega (arith, c.requires, c.loop-a.auto.line))

pub overflow_add-n : goal.overflow_add-n
overflow_add-n c = let p = c.put_thirds-n.ensures in
    omega (arith, c.loop-a.invariant.1, put-end p, p.short, c.loop-a-test.true)

pub loop-a-preserved : goal.loop-a-preserved
loop-a-preserved c = let s = c.args.site in
    let a = c.loop-a.a in
    let e = put-end c.put_thirds-n.ensures in (
      omega (arith, e, ap length (first_more s a), c.loop-a.invariant.0, length-append (firsts_said s a) (thirds_said s a)),
      omega (arith, e, c.put_thirds-n.ensures.short, c.loop-a.invariant.1),
    )

pub returns : goal.returns
returns c = let e : c.loop-a.a ≡ 32 = omega arith in
    (c.loop-a.invariant.0 ∙ ap (λ (k : ℕ). length (firsts_said c.args.site k)) e, omega (arith, c.loop-a.invariant.1))
