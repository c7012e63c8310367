-- `words::lay` meets its contract: before the d-th store, d words are laid down. Assumes nothing.
use mathlib.Core.Path.{refl, ◌∙◌}
use Prim.Native.Nat.{◌+◌}
use native.Mathlib.Omega.{arith}
use lib.ListN.{length-set}
use Rattle.laws.specs.Part.{list_of}
use Rattle.laws.proofs.Stores.{sets-after}
use Rattle.words.proofs.lay.Goals as goal

pub loop-d-init : goal.loop-d-init
unfolding list_of
loop-d-init c = (omega arith, refl, refl)

pub loop-d-preserved : goal.loop-d-preserved
loop-d-preserved c = let l = c.loop-d in
    let a = c.args in (
      omega arith,
      length-set l.words (a.from + l.d) a.word ∙ l.invariant.1,
      sets-after (λ _. a.word) a.from l.d a.word l.words a.words.now refl l.invariant.2,
    )
