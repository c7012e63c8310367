-- `whytext::put_all_thirds` meets its contract: before first cell a, the lines of the cells below it are laid. Assumes nothing.
use Prim.Native.Nat.{ℕ, ◌+◌}
use mathlib.Core.Path.{◌≡◌, refl, sym, ap, ◌∙◌}
use native.Mathlib.Nat.{add-zero}
use native.Mathlib.Omega.{arith}
use lib.ListN.{length, length-append}
use lib.Seq.{sets, length-sets}
use Rattle.laws.proofs.Stores.{sets-append}
use Rattle.say_rule.specs.Said.{firsts_said, thirds_said}
use Rattle.calltext.proofs.Kept.{put-end, put-inside, put-kept, put_whole}
use Rattle.whytext.proofs.Firsts.{first_more, no-shorter}
use Rattle.whytext.proofs.put_all_thirds.Goals as goal

pub loop-a-init : goal.loop-a-init
unfolding firsts_said
loop-a-init c = (refl, sym (add-zero _))

pub put_thirds-n-requires : goal.put_thirds-n-requires
put_thirds-n-requires c = (omega arith, omega (arith, c.requires.in_bounds, c.loop-a.auto.line))

pub slice_bounds-put_text-end : goal.slice_bounds-put_text-end
slice_bounds-put_text-end c = put-inside c.put_thirds-n.ensures (omega (arith, c.requires.in_bounds, c.loop-a.auto.line))

pub slice_bounds-put_text-end-in-loop-a : goal.slice_bounds-put_text-end-in-loop-a
slice_bounds-put_text-end-in-loop-a c = put_whole c.put_thirds-n.ensures (omega (arith, c.requires.in_bounds, c.loop-a.auto.line))

pub put_text-next-requires : goal.put_text-next-requires
put_text-next-requires c = let site = c.args.site in
    let a = c.loop-a.a in
    omega (
      arith,
      put_whole c.put_thirds-n.ensures (omega (arith, c.requires.in_bounds, c.loop-a.auto.line)),
      put-end c.put_thirds-n.ensures,
      c.loop-a.invariant.1,
      ap length c.loop-a.invariant.0,
      length-sets c.args.out.now c.args.at (firsts_said site a),
      ap length (first_more site a),
      length-append (firsts_said site a) (thirds_said site a),
      no-shorter site (a + 1) 32 (omega arith),
      c.requires.site_in_bounds,
    )

pub loop-a-preserved : goal.loop-a-preserved
loop-a-preserved c = let s = c.args in
    let a = c.loop-a.a in
    let kept = put-kept c.put_thirds-n.ensures (omega (arith, c.requires.in_bounds, c.loop-a.auto.line)) in
    let more = first_more s.site a in (
      c.put_text-next.ensures.stored
          ∙ ap (sets c.loop-a.out c.loop-a.next) kept
          ∙ rw (c.loop-a.invariant.0, c.loop-a.invariant.1) (sym (sets-append s.out.now s.at (firsts_said s.site a) (thirds_said s.site a)))
          ∙ ap (sets s.out.now s.at) (sym more),
      omega (
        arith,
        c.put_text-next.ensures.next,
        ap length kept,
        c.loop-a.invariant.1,
        ap length more,
        length-append (firsts_said s.site a)
            (thirds_said s.site a),
      ),
    )

pub returns : goal.returns
returns c = let s = c.args in
    let e : c.loop-a.a ≡ 32 = omega arith in record {
      stored = c.loop-a.invariant.0 ∙ ap (λ (k : ℕ). sets s.out.now s.at (firsts_said s.site k)) e;
      next = c.loop-a.invariant.1 ∙ ap (λ (k : ℕ). s.at + length (firsts_said s.site k)) e;
    }
