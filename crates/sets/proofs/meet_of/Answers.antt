-- `sets::meet_of` meets its contract: before word j, that many words are stored. Assumes nothing.
use mathlib.Core.Path.{◌≡◌, refl, ◌∙◌}
use mathlib.Core.Bool.{◌&&◌}
use native.Mathlib.Omega.{arith}
use lib.ListN.{length-set}
use Rattle.laws.proofs.Stores.{sets-none, sets_more}
use Rattle.positions.specs.Blocked.{word_in}
use Rattle.sets.specs.Sets.{in_set}
use Rattle.sets.proofs.Sets.{two-word}
use Rattle.sets.proofs.meet_of.Goals as goal

pub loop-j-init : goal.loop-j-init
loop-j-init c = (omega arith, refl, sets-none _ _)

pub loop-j-preserved : goal.loop-j-preserved
loop-j-preserved c = let p = c.loop-j in
    let a = c.args in (
      omega arith,
      length-set p.to p.j _ ∙ p.invariant.1,
      sets_more (word_in (λ k. in_set a.a.now k && in_set a.b.now k)) p.j _ p.to a.to.now
          (c.shared.ensures ∙ two-word ◌&&◌ a.a.now a.b.now p.j) p.invariant.2,
    )

pub returns : goal.returns
returns c = let e : c.loop-j.j ≡ c.args.w = omega arith in
    rw e at c.loop-j.invariant.2
