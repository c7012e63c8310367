-- `putblocks::slot_word` meets its contract: before channel f, the word has the channels below it. Assumes nothing.
use mathlib.Core.Path.{◌≡◌, refl, ap, ap₂, ◌∙◌}
use mathlib.Core.Bool.{Bool}
use Prim.Native.Nat.{ℕ, ◌+◌, ◌*◌, ◌^◌}
use native.Mathlib.Omega.{arith}
use lib.Bits.{bit_or}
use Rattle.laws.specs.Bits.{word_of}
use Rattle.laws.specs.Choice.{pick}
use Rattle.laws.specs.Sum.{sum}
use Rattle.laws.proofs.Words.{word_more}
use Rattle.positions.specs.Blocked.{blocked_at}
use Rattle.putblocks.specs.Canon.{slot_word}
use Rattle.putblocks.proofs.slot_word.Goals as goal

pub loop-f-init : goal.loop-f-init
unfolding word_of sum
loop-f-init c = (omega arith, refl)

pub loop-f-preserved : goal.loop-f-preserved
loop-f-preserved c = let p : ℕ → Bool = λ g. blocked_at c.args.set.now (c.args.t * c.args.channels + g) in (
  omega arith,
  ap₂ bit_or c.loop-f.invariant.1 (c.bit_weight-y.ensures ∙ ap (λ t. pick t (2 ^ c.loop-f.f) 0) c.is_blocked-b.ensures)
      ∙ word_more p c.loop-f.f,
)

pub returns : goal.returns
unfolding slot_word
returns c = let p : ℕ → Bool = λ g. blocked_at c.args.set.now (c.args.t * c.args.channels + g) in
    let e : c.loop-f.f ≡ c.args.channels = omega arith in
    c.loop-f.invariant.1 ∙ ap (word_of p) e
