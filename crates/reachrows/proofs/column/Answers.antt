-- `reachrows::column` meets its contract: before row b, the word of the rows below b. Assumes nothing.
use mathlib.Core.Path.{sym, ◌∙◌}
use native.Mathlib.Omega.{arith}
use Rattle.laws.specs.Bits.{bit_in}
use Rattle.laws.proofs.Words.{word-zero, word-join}
use Rattle.reachrows.proofs.column.Goals as goal

pub loop-b-init : goal.loop-b-init
loop-b-init c = (omega arith, sym (word-zero _))

pub loop-b-preserved : goal.loop-b-preserved
loop-b-preserved c = let a = c.args in
    (omega arith, c.joined-word.ensures ∙ word-join (λ k. bit_in a.rows.now k a.a) c.loop-b.b c.loop-b.word c.loop-b.invariant.1)
