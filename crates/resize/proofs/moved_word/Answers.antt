-- `resize::moved_word` meets its contract: before bit b, the word has the positions below it. Assumes nothing.
use Prim.Native.Nat.{ℕ, ◌+◌, ◌*◌, ◌^◌}
use mathlib.Core.Bool.{Bool}
use mathlib.Core.Path.{refl, ap, ap₂, ◌∙◌}
use native.Mathlib.Omega.{arith}
use lib.Bits.{bit_or}
use Rattle.laws.specs.Bits.{word_of}
use Rattle.laws.specs.Choice.{pick}
use Rattle.laws.specs.Sum.{sum}
use Rattle.laws.proofs.Words.{word_more}
use Rattle.resize.specs.Sizes.{moved_at}
use Rattle.resize.proofs.moved_word.Goals as goal

pub loop-b-init : goal.loop-b-init
unfolding word_of sum
loop-b-init c = (omega arith, refl)

pub loop-b-preserved : goal.loop-b-preserved
loop-b-preserved c = let e = c.args in
    let p : ℕ → Bool = λ i. moved_at e.set.now e.slots e.channels e.to (64 * e.j + i) in (
      omega arith,
      ap₂ bit_or c.loop-b.invariant.1 (c.bit_weight-y.ensures ∙ ap (λ t. pick t (2 ^ c.loop-b.b) 0) c.pair_blocked-t.ensures)
          ∙ word_more p c.loop-b.b,
    )
