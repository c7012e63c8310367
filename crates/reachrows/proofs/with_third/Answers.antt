-- `reachrows::with_third` meets its contract: before cell b, the word of the cells below b that reach a third cell with a. Assumes nothing.
use mathlib.Core.Path.{sym, ap, ◌∙◌}
use native.Mathlib.Omega.{arith}
use Rattle.laws.specs.Bits.{set_bit}
use Rattle.laws.specs.Choice.{pick}
use Rattle.laws.proofs.Words.{word-zero, word-join}
use Rattle.reachrows.specs.Rows.{reached_by_both}
use Rattle.reachrows.proofs.Rule.{pair-third}
use Rattle.reachrows.proofs.with_third.Goals as goal

pub loop-b-init : goal.loop-b-init
loop-b-init c = (omega arith, sym (word-zero _))

pub loop-b-preserved : goal.loop-b-preserved
loop-b-preserved c = let share = c.share_third in
    let a = c.args in (
      omega arith,
      c.joined-word.ensures
          ∙ ap (λ t. pick t (set_bit c.loop-b.word c.loop-b.b) c.loop-b.word) (share.ensures ∙ pair-third a.rows.now a.a c.loop-b.b)
          ∙ word-join (reached_by_both a.rows.now a.a) c.loop-b.b c.loop-b.word c.loop-b.invariant.1,
    )
