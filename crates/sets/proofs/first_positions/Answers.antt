-- `sets::first_positions` meets its contract: before word j, that many words are stored. Assumes nothing.
use mathlib.Core.Path.{◌≡◌, refl, ap, ◌∙◌}
use Prim.Native.Nat.{ℕ}
use native.Mathlib.Omega.{arith}
use lib.Dec.{ltb}
use lib.ListN.{length-set}
use Rattle.laws.specs.Bits.{word_of}
use Rattle.laws.proofs.Stores.{sets-none, sets_more}
use Rattle.positions.specs.Blocked.{word_in}
use Rattle.sets.proofs.Sets.{low_word}
use Rattle.sets.proofs.first_positions.Goals as goal

pub loop-j-init : goal.loop-j-init
loop-j-init c = (omega arith, refl, sets-none _ _)

pub loop-j-preserved : goal.loop-j-preserved
loop-j-preserved c = let p = c.loop-j in
    let a = c.args in (
      omega arith,
      length-set p.set p.j _ ∙ p.invariant.1,
      sets_more (word_in (λ k. ltb k a.n)) p.j _ p.set a.set.now
          (c.low_word.ensures ∙ ap (λ (m : ℕ). word_of (λ b. ltb b m) 64) c.saturating_sub.ensures ∙ low_word a.n p.j) p.invariant.2,
    )

pub returns : goal.returns
returns c = let e : c.loop-j.j ≡ c.args.w = omega arith in
    rw e at c.loop-j.invariant.2
