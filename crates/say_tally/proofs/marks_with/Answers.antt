-- `say_tally::marks_with` meets its contract: before a mark, those before it that have the part are counted. Assumes nothing.
use Prim.Native.Nat.{ℕ, ◌+◌, ◌/◌, ◌%◌}
use mathlib.Core.Path.{◌≡◌, refl, sym, ap, ◌∙◌}
use native.Mathlib.Omega.{arith}
use lib.Dec.{eqb}
use lib.ListN.{length, get_or}
use Rattle.laws.specs.Sum.{bit, sum}
use Rattle.laws.proofs.Sums.{sum_more, count_most}
use Rattle.say_tally.specs.Marks.{marks_with}
use Rattle.say_tally.proofs.marks_with.Goals as goal

pub loop-mark-init : goal.loop-mark-init
unfolding sum
loop-mark-init c = refl

pub one_more-n-requires : goal.one_more-n-requires
one_more-n-requires c = let a = c.args in
    omega (
      arith,
      c.loop-mark.invariant,
      count_most (λ k. eqb (get_or a.tally.now k 0 / a.a % a.b) a.part) c.loop-mark.mark-index,
      c.requires.2,
    )

pub loop-mark-preserved : goal.loop-mark-preserved
loop-mark-preserved c = let a = c.args in
    c.one_more-n.ensures
    ∙ ap (λ (x : ℕ). x + bit (eqb (get_or a.tally.now c.loop-mark.mark-index 0 / a.a % a.b) a.part)) c.loop-mark.invariant
    ∙ sym (sum_more (λ k. bit (eqb (get_or a.tally.now k 0 / a.a % a.b) a.part)) c.loop-mark.mark-index)

pub returns : goal.returns
unfolding marks_with
returns c = let a = c.args in
    let e : c.loop-mark.mark-index ≡ length a.tally.now = omega arith in
    let is = rw e at c.loop-mark.invariant in
    (is, omega (arith, is, count_most (λ k. eqb (get_or a.tally.now k 0 / a.a % a.b) a.part) (length a.tally.now), c.requires.2))
