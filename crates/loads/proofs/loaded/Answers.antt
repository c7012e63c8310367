-- `loads::loaded` meets its contract: before cell i, the word of the cells below i that are loaded. Assumes nothing.
use mathlib.Core.Path.{sym, ap, ap₂, ◌∙◌}
use native.Mathlib.Omega.{arith}
use lib.Bits.{bit_or}
use Rattle.laws.specs.Choice.{pick}
use Rattle.laws.proofs.Bits.{one_shl}
use Rattle.laws.proofs.Words.{word-zero, word_more}
use Rattle.loads.proofs.loaded.Invariants.{has}
use Rattle.loads.proofs.loaded.Goals as goal

pub loop-i-init : goal.loop-i-init
loop-i-init c = (omega arith, sym (word-zero (has c.args.loads.now)))

pub loop-i-preserved : goal.loop-i-preserved
loop-i-preserved c = let l = c.loop-i in
    let loads = c.args.loads.now in (
      omega arith,
      ap₂ bit_or l.invariant.1 (c.bit_of-word.ensures ∙ ap (λ x. pick (has loads l.i) x 0) (one_shl l.i (omega arith))) ∙ word_more (has loads) l.i,
    )
