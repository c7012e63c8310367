-- `words::word_at` meets its contract: before cell i, the word of the cells below i. Assumes nothing.
use mathlib.Core.Path.{sym, ap, ap₂, ◌∙◌}
use native.Mathlib.Omega.{arith}
use lib.Bits.{bit_or}
use Rattle.laws.specs.Choice.{pick}
use Rattle.laws.proofs.Bits.{one_shl}
use Rattle.laws.proofs.Words.{word-zero, word_more}
use Rattle.theory.specs.Greedy.{reserved}
use Rattle.words.proofs.word_at.Goals as goal

pub loop-i-init : goal.loop-i-init
loop-i-init c = (omega arith, sym (word-zero (λ i. reserved c.args.n c.args.table.now i c.args.p)))

pub loop-i-preserved : goal.loop-i-preserved
loop-i-preserved c = let l = c.loop-i in
    let a = c.args in
    let t = reserved a.n a.table.now l.i a.p in (
      omega arith,
      ap₂ bit_or l.invariant.1 (c.weight-word.ensures ∙ ap (λ x. pick t x 0) (one_shl l.i (omega arith)))
          ∙ word_more (λ i. reserved a.n a.table.now i a.p) l.i,
    )
