-- `whytext::lay_why` meets its contract: the lines are as long as they were measured, and are laid between the two parts. Assumes nothing.
use Prim.Native.Nat.{◌+◌}
use mathlib.Core.Path.{◌≡◌, sym, ◌∙◌}
use mathlib.Core.List.{◌++◌}
use native.Mathlib.Omega.{arith}
use lib.ListN.{length, length-append}
use lib.Seq.{sets}
use Rattle.laws.proofs.Stores.{sets-append}
use Rattle.records.proofs.Write.{written-done, written-short, laid_done, laid-short}
use Rattle.say_rule.specs.Said.{firsts_said}
use Rattle.whytext.proofs.lay_why.Goals as goal

pub returns-then-out-need : goal.returns-then-out-need
returns-then-out-need c =
    let measured : length c.args.opening.now + c.thirds_len-more.result + length c.args.last.now ≡ length
    (c.args.opening.now ++ (firsts_said c.args.site 32 ++ c.args.last.now)) = let a = c.args in
    let f = firsts_said a.site 32 in
    omega (arith, c.thirds_len-more.ensures.0, length-append a.opening.now (f ++ a.last.now), length-append f a.last.now) in
    let e = measured in record { answer = written-short _ _ _ e c.if-out-need.true; out = laid-short _ _ (omega (arith, e, c.if-out-need.true)) }

pub returns : goal.returns
returns c =
    let measured : length c.args.opening.now + c.thirds_len-more.result + length c.args.last.now ≡ length
    (c.args.opening.now ++ (firsts_said c.args.site 32 ++ c.args.last.now)) = let a = c.args in
    let f = firsts_said a.site 32 in
    omega (arith, c.thirds_len-more.ensures.0, length-append a.opening.now (f ++ a.last.now), length-append f a.last.now) in
    let a = c.args in
    let f = firsts_said a.site 32 in
    let e = measured in
    let fits = c.if-out-need.false in record {
      answer = written-done _ _ _ e fits;
      out = c.put_text.ensures.stored
          ∙ rw (c.put_all_thirds-end.ensures.stored, c.put_all_thirds-end.ensures.next, c.put_text-at.ensures.stored, c.put_text-at.ensures.next) (
          sym (sets-append (sets a.out.now 0 a.opening.now) (0 + length a.opening.now) f a.last.now)
          ∙ sym (sets-append a.out.now 0 a.opening.now (f ++ a.last.now))
          )
          ∙ laid_done (a.opening.now ++ (f ++ a.last.now)) a.out.now (omega (arith, e, fits));
    }
